pub mod Feed
pub mod First
pub mod Input
pub mod Listed
pub mod Printed
