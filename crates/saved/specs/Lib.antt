pub mod Call
pub mod Put
pub mod Save
