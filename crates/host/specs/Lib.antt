pub mod Fits
pub mod Host
