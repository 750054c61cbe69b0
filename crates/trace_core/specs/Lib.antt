pub mod Digits
pub mod Texts
pub mod Putting
pub mod inner
