pub mod Groups
pub mod Verdicts
pub mod Rules
