pub mod LaneBytes
pub mod LaneSteps
