pub mod CommandLaws
pub mod DecisionLaws
