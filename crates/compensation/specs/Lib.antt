pub mod Claim
pub mod Compensation
pub mod Unaged
