pub mod Byte
pub mod Flags
