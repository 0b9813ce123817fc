pub mod Address
pub mod Ranges
pub mod OldForm
pub mod Text
pub mod Inside
pub mod Same
pub mod NetSet
pub mod NetBits
