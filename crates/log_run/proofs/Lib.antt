pub mod Batches
pub mod Loops
pub mod OneMore
pub mod Parts
pub mod Readers
pub mod Runs
