pub mod Inside
pub mod Messages
pub mod Taking
