pub mod Rec
pub mod Buckets
pub mod Deletion
pub mod Blank
pub mod Snapshot
