pub mod Bits
pub mod Written
pub mod Facts
pub mod Raised
pub mod Learned
pub mod Named
pub mod Turned
