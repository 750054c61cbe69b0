pub mod Kinds
pub mod Sizes
pub mod Elements
pub mod Rules
pub mod Lowest
pub mod Nodes
pub mod Constants
