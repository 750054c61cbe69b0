pub mod Mapping
pub mod Lines
pub mod LoopFree
pub mod Ordered
pub mod Imaging
pub mod MidImages
pub mod inner
