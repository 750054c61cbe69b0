pub mod Cells
pub mod Ends
pub mod Sizes
pub mod Following
pub mod Runs
