pub mod Numbers
pub mod CompactSize
pub mod Format
pub mod Fields
pub mod Readings
