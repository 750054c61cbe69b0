pub mod Maps
pub mod Placing
pub mod PortTexts
pub mod Arguments
pub mod Fronts
pub mod Exact
pub mod Answered
