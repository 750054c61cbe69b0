pub mod Spaces
pub mod Cards
pub mod Outcomes
