pub mod Answered
pub mod Counts
pub mod Drawn
pub mod Elsewhere
pub mod Opaque
pub mod Pixels
pub mod Signed
pub mod Standing
