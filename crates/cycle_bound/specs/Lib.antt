pub mod Told
pub mod Lines
pub mod Forward
pub mod Staying
pub mod inner
