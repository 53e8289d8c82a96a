pub mod Form
pub mod InNewest
pub mod Signed
