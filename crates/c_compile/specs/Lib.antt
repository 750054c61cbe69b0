pub mod Straight
pub mod Compiling
