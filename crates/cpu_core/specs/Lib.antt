pub mod Space
pub mod Machine
pub mod Answers
pub mod Stepping
