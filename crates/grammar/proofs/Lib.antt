pub mod WordLemmas
pub mod NameLemmas
pub mod Values
pub mod TableLemmas
pub mod ReadingLemmas
pub mod Examples
