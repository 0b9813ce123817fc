pub mod Slots
pub mod Counts
pub mod Dots
