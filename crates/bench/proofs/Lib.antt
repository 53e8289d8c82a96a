pub mod PrintLaws
pub mod ReadLaws
pub mod WrittenLaws
