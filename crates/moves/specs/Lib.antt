pub mod Direction
pub mod Key
pub mod Place
