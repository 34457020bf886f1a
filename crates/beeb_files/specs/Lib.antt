pub mod Files
pub mod Counts
pub mod Shelf
pub mod Outlet
pub mod Memory
pub mod Folder
pub mod Crew
