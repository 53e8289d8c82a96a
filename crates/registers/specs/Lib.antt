pub mod Map
pub mod Reading
pub mod Times
pub mod Values
pub mod Whole
