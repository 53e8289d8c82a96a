pub mod FilterLaws
pub mod FinishLaws
pub mod TakenLaws
