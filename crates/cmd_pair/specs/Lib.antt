pub mod Solo
pub mod Gen
pub mod Code
