pub mod Tracked
pub mod Begun
pub mod Outputs
