pub mod Sets
pub mod Labels
pub mod Heads
pub mod inner
