pub mod Claim
pub mod Preview
