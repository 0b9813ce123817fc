pub mod Base32
pub mod Inside
pub mod Name
pub mod Text
pub mod Keccak
