pub mod Rows
pub mod Slots
pub mod Spreads
pub mod DateExamples
