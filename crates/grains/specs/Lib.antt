pub mod Grains
pub mod Leak
pub mod Learning
pub mod Rest
pub mod Run
