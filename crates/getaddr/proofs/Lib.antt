pub mod Alike
pub mod Fits
pub mod Independent
pub mod Told
