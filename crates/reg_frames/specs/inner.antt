pub mod Placing
pub mod Pass
pub mod Moved
