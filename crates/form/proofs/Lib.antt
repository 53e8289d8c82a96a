pub mod FormsLaws
pub mod InNewestLaws
pub mod LaidOutLaws
pub mod NamesLaws
pub mod SignedLaws
pub mod StoredLaws
