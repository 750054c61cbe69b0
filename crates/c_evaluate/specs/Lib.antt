pub mod Evaluation
pub mod inner
