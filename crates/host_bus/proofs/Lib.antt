pub mod Owners
pub mod Ram
pub mod Places
pub mod Closed
pub mod Unseen
pub mod Peeks
pub mod CalmThere
