pub mod ChargeAfterLaws
