pub mod Words
pub mod Reading
pub mod ItemTypes
pub mod ItemBreaks
pub mod Whole
pub mod View
pub mod inner
