pub mod Settled
pub mod ImprovedFrom
pub mod MadeFrom
pub mod inner
