pub mod BoundsOf
pub mod Sums
pub mod Untried
