pub mod Chain
pub mod FrameChain
pub mod Together
