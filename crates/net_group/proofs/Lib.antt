pub mod Classes
pub mod Examples
pub mod Ones
