pub mod Source
pub mod Summary
