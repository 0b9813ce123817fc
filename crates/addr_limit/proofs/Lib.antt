pub mod Apart
mod Served
pub mod LineLaws
pub mod Fits
mod Examples
pub mod Events
pub mod Changes
pub mod PassedOn
