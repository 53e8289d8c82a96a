pub mod CopyLaws
pub mod MapLaws
pub mod PreviewLaws
pub mod ReadingLaws
pub mod TestedLaws
pub mod ValuesLaws
pub mod WholeLaws
