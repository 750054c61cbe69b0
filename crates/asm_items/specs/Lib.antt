pub mod Items
pub mod Mnemonics
pub mod Operands
pub mod Written
pub mod Disassembled
pub mod Words
pub mod Vocabulary
