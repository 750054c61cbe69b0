pub mod EmittedFrom
pub mod inner
