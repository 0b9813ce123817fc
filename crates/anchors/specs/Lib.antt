pub mod Faults
pub mod FaultTexts
pub mod Layout
pub mod Readings
pub mod Texts
pub mod Listing
