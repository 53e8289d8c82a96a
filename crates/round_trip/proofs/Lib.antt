pub mod FieldsLaws
pub mod RoundTripLaws
