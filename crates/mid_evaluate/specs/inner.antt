pub mod Answers
pub mod Once
