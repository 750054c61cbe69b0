pub mod Decimals
pub mod Puts
pub mod Runs
