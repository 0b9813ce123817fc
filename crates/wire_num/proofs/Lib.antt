pub mod ReadingLaws
pub mod FieldLaws
pub mod CompactLaws
pub mod Examples
pub mod LoopLaws
pub mod WritingLaws
