pub mod Image
pub mod CodeDisc
pub mod Laws
