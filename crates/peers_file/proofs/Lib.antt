mod NoMemory
pub mod FileLaws
pub mod TextLaws
pub mod WholeLaws
mod BucketLaws
mod WriteLaws
mod Examples
pub mod Lines
mod ListingExamples
