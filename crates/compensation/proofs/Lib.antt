pub mod AgeLaws
