pub mod View
pub mod Listed
pub mod Spared
pub mod Lasting
pub mod Words
