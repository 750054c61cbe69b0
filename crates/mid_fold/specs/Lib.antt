pub mod FoldedFrom
pub mod Lasting
pub mod inner
