pub mod Diff
pub mod Inside
pub mod Text
