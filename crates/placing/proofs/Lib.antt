pub mod BitBytes
pub mod Buckets
pub mod Examples
