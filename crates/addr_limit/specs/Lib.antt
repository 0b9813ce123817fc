pub mod LogState
pub mod Steps
pub mod Apart
pub mod Lines
pub mod Laws
pub mod Inside
