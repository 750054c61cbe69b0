pub mod Words
pub mod Texts
pub mod Tests
pub mod Reading
