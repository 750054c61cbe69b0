pub mod Keys
pub mod Stepping
pub mod Entries
pub mod Whole
