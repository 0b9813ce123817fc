pub mod FaultTexts
pub mod Words
pub mod Fields
pub mod Contents
pub mod Table
pub mod Reading
pub mod Inside
