pub mod Command
pub mod Created
pub mod Forms
pub mod Number
pub mod Parsed
pub mod inner
