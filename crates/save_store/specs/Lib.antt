pub mod Job
pub mod Saves
