pub mod Bytes
pub mod Chunks
pub mod Accepted
pub mod Fronts
pub mod Wholes
pub mod Found
pub mod Laid
pub mod Refused
