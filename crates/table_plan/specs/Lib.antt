pub mod Reach
pub mod Planned
pub mod Positions
pub mod Waiters
