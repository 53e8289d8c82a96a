pub mod BytesLaws
pub mod CallLaws
pub mod DirectionLaws
pub mod HostByteLaws
pub mod KeyLaws
pub mod RestLaws
