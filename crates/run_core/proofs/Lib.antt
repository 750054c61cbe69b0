pub mod Holding
pub mod Parts
pub mod Going
pub mod Wholes
pub mod Rows
pub mod Endings
