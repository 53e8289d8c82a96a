pub mod HostKept
pub mod HostLaws
