mod Parting
pub mod Lexing
mod Listing
mod Lines
mod Putting
pub mod FormLaws
pub mod OperandLaws
pub mod WordLaws
pub mod PartLaws
pub mod TokenLaws
pub mod DigitLaws
pub mod SpellingLaws
pub mod AgainLaws
