pub mod Each
pub mod inner
