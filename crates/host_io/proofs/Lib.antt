pub mod Appending
pub mod Asking
pub mod Changes
mod DiskExamples
mod Examples
pub mod Fates
mod FirstBytes
mod LineLaws
pub mod Moments
pub mod Names
mod Written
