mod Lookups
mod ItemSizes
mod Walking
mod Whole
pub mod Standing
mod Again
pub mod ReadingAgain
mod Parted
mod Known
mod Pieces
