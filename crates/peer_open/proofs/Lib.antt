pub mod Apart
mod Members
pub mod Judged
mod Examples
