pub mod Straight
pub mod Emitting
