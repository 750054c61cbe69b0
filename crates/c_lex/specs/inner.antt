pub mod Left
pub mod Seconds
