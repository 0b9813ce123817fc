pub mod Addresses
pub mod AddressLaws
pub mod MessageLaws
pub mod TextLaws
pub mod WritingLaws
pub mod Examples
