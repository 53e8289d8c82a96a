pub mod ChargeAfter
pub mod Ending
pub mod Full
pub mod Reached
