pub mod Joins
pub mod Adding
pub mod Rooms
pub mod Filled
pub mod Forms
pub mod StatementForms
pub mod Viewed
