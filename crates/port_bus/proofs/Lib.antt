pub mod Applying
pub mod Keeping
pub mod Standing
pub mod Unconnected
pub mod Ruling
pub mod Others
