pub mod Controls
pub mod Random
pub mod State
pub mod Answers
pub mod Stand
pub mod FrameRule
pub mod inner
