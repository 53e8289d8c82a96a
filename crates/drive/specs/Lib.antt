pub mod Claim
pub mod Drive
pub mod NewestForm
pub mod OlderForms
pub mod Preview
pub mod Rests
pub mod Update
