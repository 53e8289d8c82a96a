pub mod LeakLaws
pub mod RestLaws
pub mod RunLaws
pub mod StepLaws
