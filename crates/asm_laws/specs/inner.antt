pub mod Links
pub mod Following
pub mod Emitted
