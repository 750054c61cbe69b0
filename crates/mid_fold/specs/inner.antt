pub mod Folding
pub mod Listed
pub mod Reusing
pub mod ReusingListed
