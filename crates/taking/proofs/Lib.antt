mod Examples
pub mod Prefixes
