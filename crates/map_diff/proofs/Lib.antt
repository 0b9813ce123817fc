pub mod Constant
pub mod Counts
pub mod Cursors
pub mod DiffLaws
mod Examples
pub mod Fewest
pub mod Joins
pub mod Parts
pub mod Paths
pub mod Results
pub mod Texts
pub mod Walks
pub mod Whole
