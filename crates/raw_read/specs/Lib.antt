pub mod Fields
pub mod Rows
pub mod Raw
pub mod Inside
