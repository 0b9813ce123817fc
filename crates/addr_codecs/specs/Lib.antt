pub mod Entries
pub mod Faults
pub mod Network
pub mod Layout
pub mod Texts
pub mod Readings
pub mod Inside
