pub mod DecimalLaws
pub mod LineLaws
pub mod NumberLaws
pub mod PutLaws
pub mod RoundTripLaws
pub mod SignedLaws
pub mod TextLaws
