pub mod Value
pub mod Raw
pub mod Info
pub mod Groups
pub mod Bans
pub mod Inside
