pub mod Grouping
pub mod Occupants
pub mod Shares
pub mod Rows
pub mod Texts
pub mod Tens
pub mod SetTexts
pub mod Inside
