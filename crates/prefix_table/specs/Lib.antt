pub mod Rows
pub mod Text
pub mod Print
pub mod Inside
pub mod Numbered
pub mod FaultTexts
