pub mod Rows
pub mod Reached
pub mod Texts
pub mod Examples
