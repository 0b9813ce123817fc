pub mod Inside
pub mod Requests
