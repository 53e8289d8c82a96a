pub mod DriveLaws
pub mod EstimateLaws
pub mod HistoryLaws
pub mod OlderFormsLaws
pub mod PreviewLaws
pub mod RestsLaws
pub mod SavedLaws
pub mod UpdateLaws
