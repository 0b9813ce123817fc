pub mod Grammar
pub mod Laws
pub mod Tries
pub mod State
pub mod Texts
pub mod Lines
pub mod Inside
pub mod Fair
