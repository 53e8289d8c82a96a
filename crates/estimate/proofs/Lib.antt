pub mod DistanceLaws
pub mod EstimateLaws
