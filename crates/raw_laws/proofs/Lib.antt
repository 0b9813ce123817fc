mod Addresses
mod Fits
mod Records
mod Texts
mod Shown
