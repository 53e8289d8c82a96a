pub mod ChargeKept
pub mod ChargeLaws
pub mod RestLaws
pub mod RunKept
