pub mod Calls
pub mod Keep
