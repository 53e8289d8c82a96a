pub mod Charge
pub mod Fits
pub mod Obeyed
pub mod Rest
pub mod Step
