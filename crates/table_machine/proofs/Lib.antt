mod Examples
pub mod Lists
pub mod Records
pub mod Orders
pub mod Fields
pub mod Buckets
pub mod SoundBut
pub mod Primitives
pub mod Slots
pub mod Added
pub mod Rest
pub mod Counts
pub mod Tried
pub mod Moved
pub mod Waiting
pub mod Reached
pub mod Marks
pub mod Exchanged
pub mod EachRec
pub mod Kept
pub mod Unchanged
pub mod Folds
pub mod Refusals
pub mod ExampleStates
mod SoundExamples
mod StepExamples
mod TriedExamples
mod PickExamples
pub mod Rising
pub mod Part
pub mod Grown
pub mod Placed
pub mod Listed
pub mod RestartLaw
pub mod Filling
pub mod RestoredSound
pub mod SnapshotFits
mod RestoreExamples
