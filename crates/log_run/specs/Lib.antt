pub mod Counts
pub mod Inside
pub mod Log
pub mod Parts
pub mod Reading
pub mod Run
pub mod Waiting
pub mod Worlds
