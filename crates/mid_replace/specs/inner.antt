pub mod Facts
pub mod Held
pub mod Replaced
pub mod Chosen
pub mod Tables
pub mod Onto
pub mod Loops
