pub mod CallLaws
pub mod EstimateLaws
