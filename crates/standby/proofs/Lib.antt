pub mod ShownLaws
pub mod StandbyKept
