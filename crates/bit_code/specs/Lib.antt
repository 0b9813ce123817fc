pub mod Coder
pub mod Reading
pub mod Inside
pub mod Files
pub mod Prefixes
