pub mod Settings
pub mod Regions
pub mod Places
pub mod Commands
pub mod Colours
pub mod Answers
pub mod Stand
pub mod Changes
