pub mod Tries
pub mod TenBound
pub mod Inside
