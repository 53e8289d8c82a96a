pub mod CopiedLaws
pub mod EveryFormLaws
