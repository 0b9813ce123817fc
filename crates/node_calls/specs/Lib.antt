pub mod Chosen
pub mod First
pub mod Picked
pub mod Unfiltered
