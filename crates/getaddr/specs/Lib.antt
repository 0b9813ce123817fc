pub mod Alike
pub mod Fresh
pub mod Messages
pub mod Requests
