pub mod Current
pub mod Fits
pub mod Limits
pub mod Range
pub mod Sample
