pub mod Levels
pub mod SourceLoops
pub mod LoweredFrom
