pub mod BitLaws
pub mod BoolLaws
pub mod BytesLaws
pub mod EveryLaws
pub mod LittleLaws
pub mod ProductLaws
pub mod SignedLaws
