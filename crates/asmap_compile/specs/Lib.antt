pub mod Compiled
pub mod File
pub mod Inside
pub mod FaultTexts
