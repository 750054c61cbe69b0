pub mod Entries
pub mod Grammar
pub mod Reading
pub mod MapText
pub mod ProjectText
pub mod inner
