pub mod AcceptedLaws
pub mod CallLaws
pub mod GaugeLaws
pub mod MeasuredLaws
pub mod ObeyedKept
pub mod OpeningLaws
pub mod TakenLaws
pub mod WindowLaws
