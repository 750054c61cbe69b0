pub mod Quotes
pub mod Spelling
pub mod Again
pub mod Strays
pub mod Lines
pub mod Classes
pub mod Refused
pub mod Whole
