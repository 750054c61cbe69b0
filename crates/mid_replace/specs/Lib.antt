pub mod ReplacedFrom
pub mod inner
