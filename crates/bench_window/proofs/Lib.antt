pub mod AnswerLaws
pub mod RefusedLaws
pub mod ShownLaws
