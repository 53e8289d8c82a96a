pub mod EndedLaws
pub mod FirstLaws
pub mod InputLaws
pub mod ListedLaws
pub mod NamesLaws
pub mod OpenedLaws
pub mod WholeLaws
