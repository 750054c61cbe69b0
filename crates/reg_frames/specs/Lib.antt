pub mod Placeable
pub mod PlacedFrom
pub mod inner
