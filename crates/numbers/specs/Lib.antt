pub mod Bits
pub mod Little
pub mod Signed
