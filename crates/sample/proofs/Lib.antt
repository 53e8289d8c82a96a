pub mod CurrentLaws
pub mod RangeLaws
pub mod SampleKept
pub mod SampleLaws
