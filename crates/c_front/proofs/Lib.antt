pub mod Laying
pub mod Faulting
pub mod Answering
pub mod Failing
pub mod Listing
