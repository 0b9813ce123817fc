pub mod Back
pub mod Ahead
pub mod Inside
