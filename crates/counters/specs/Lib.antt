pub mod Counters
pub mod Cycles
pub mod Fits
