pub mod Passing
pub mod Alike
pub mod Programs
