pub mod Folders
pub mod History
pub mod Inside
pub mod State
