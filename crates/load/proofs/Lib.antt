pub mod LoadLaws
pub mod LookLaws
pub mod TakenLaws
