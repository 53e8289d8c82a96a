pub mod PreviewLaws
pub mod ShowsLaws
