pub mod ItemExact
pub mod WholeExact
pub mod Answered
pub mod Held
pub mod Spent
pub mod Counted
