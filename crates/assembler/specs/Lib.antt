pub mod Labels
pub mod Naming
pub mod Placed
pub mod Sizes
pub mod Faults
pub mod Standing
pub mod Texts
pub mod inner
