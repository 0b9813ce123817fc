pub mod PathRows
pub mod Ranges
pub mod LastRow
pub mod BackLaws
pub mod Steps
mod Pieces
mod Examples
