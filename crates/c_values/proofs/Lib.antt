pub mod Addresses
pub mod Lists
pub mod Sets
