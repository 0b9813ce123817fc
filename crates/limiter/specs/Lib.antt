pub mod Tokens
pub mod State
pub mod Calls
pub mod Inside
