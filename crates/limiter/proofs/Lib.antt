pub mod Conns
pub mod Tokens
pub mod Entries
pub mod Found
pub mod Written
pub mod Removed
pub mod Messages
