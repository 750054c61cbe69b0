pub mod Spelled
pub mod Statements
pub mod Texts
pub mod Classes
pub mod Refused
