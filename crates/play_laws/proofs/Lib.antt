pub mod Playing
pub mod MoreAnswers
pub mod Arriving
pub mod Sources
pub mod Extending
pub mod Kept
pub mod Watching
