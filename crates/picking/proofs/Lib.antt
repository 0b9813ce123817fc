pub mod Candidates
pub mod FirstBits
pub mod Samples
pub mod Drawn
pub mod SampleLaws
