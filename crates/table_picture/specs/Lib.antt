pub mod By
pub mod Date
pub mod Facts
pub mod Marks
pub mod Slots
pub mod Picture
pub mod Inside
pub mod Sets
