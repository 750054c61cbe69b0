pub mod Played
pub mod Keeping
