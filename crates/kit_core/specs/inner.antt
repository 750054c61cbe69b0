pub mod Causes
pub mod Putting
pub mod Checking
pub mod Playing
pub mod Fronts
pub mod Following
pub mod Fresh
