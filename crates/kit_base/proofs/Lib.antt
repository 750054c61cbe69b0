pub mod Holdings
pub mod Cuts
pub mod Entries
pub mod Words
pub mod Distinct
