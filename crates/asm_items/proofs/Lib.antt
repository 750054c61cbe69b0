mod Disassembling
pub mod Names
pub mod Spelled
