pub mod Survey
pub mod Parts
