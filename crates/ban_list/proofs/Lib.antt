pub mod BanLaws
pub mod Covers
pub mod Examples
pub mod FileLaws
pub mod ListExamples
pub mod Forms
pub mod Masks
pub mod WriteLaws
pub mod MeaningLaws
pub mod Merging
pub mod Named
mod OneName
pub mod NamedLaws
pub mod NewLaws
pub mod OldLaws
pub mod ProperTexts
