pub mod Bounds
pub mod Named
pub mod Addresses
