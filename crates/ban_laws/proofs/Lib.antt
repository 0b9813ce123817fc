pub mod Parts
pub mod Values
pub mod Distinct
pub mod Found
pub mod Data
pub mod Lists
pub mod Names
pub mod Own
