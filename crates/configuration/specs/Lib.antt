pub mod BenchPack
pub mod Configuration
pub mod Fits
pub mod Settings
pub mod Terms
