pub mod FormLaws
pub mod PutLaws
pub mod SaveLaws
pub mod StoredLaws
