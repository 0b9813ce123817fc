pub mod Tokens
pub mod Records
pub mod Counts
pub mod Items
pub mod Listed
pub mod Sums
pub mod Firsts
pub mod Known
