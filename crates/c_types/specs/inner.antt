pub mod FurtherDown
pub mod Heights
pub mod TypeCodes
