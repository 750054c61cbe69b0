pub mod LowestCode
pub mod SameTypes
pub mod Compounds
pub mod Walks
