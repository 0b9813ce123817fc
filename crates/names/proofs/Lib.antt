pub mod Base32Laws
pub mod RoundTrip
pub mod Letters
pub mod Forms
pub mod Lower
pub mod Printed
pub mod Readings
mod Examples
mod Checksums
pub mod Filling
mod StandardFacts
