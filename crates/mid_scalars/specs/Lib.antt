pub mod PromotedFrom
pub mod inner
