pub mod Plans
pub mod Dropping
pub mod Positions
