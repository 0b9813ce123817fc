mod Examples
pub mod Items
pub mod Kept
pub mod Numbers
pub mod OneMeaning
pub mod Percents
