pub mod Events
pub mod Files
pub mod Folders
