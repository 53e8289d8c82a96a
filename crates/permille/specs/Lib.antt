pub mod Claim
pub mod Rule
pub mod Table
