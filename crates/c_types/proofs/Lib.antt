pub mod Maps
pub mod Lists
pub mod Walks
pub mod Leaps
