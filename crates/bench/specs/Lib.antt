pub mod Print
pub mod Written
