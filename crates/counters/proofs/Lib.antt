pub mod CountersKept
pub mod CountersLaws
pub mod CyclesLaws
