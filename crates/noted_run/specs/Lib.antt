pub mod Notes
pub mod First
