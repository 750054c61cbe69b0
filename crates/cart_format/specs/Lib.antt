pub mod Table
pub mod Cartridge
pub mod Tests
pub mod Reading
pub mod Parts
