pub mod Outputs
pub mod Ending
pub mod Writing
pub mod Stands
