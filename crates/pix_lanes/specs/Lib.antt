pub mod Pixels
pub mod inner
