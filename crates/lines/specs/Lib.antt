pub mod Decimal
pub mod Line
pub mod Number
pub mod Put
pub mod Reading
pub mod Text
pub mod Word
