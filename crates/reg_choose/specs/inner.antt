pub mod Checked
pub mod Holding
pub mod Trails
pub mod Sparse
pub mod Seen
pub mod Scan
pub mod Handing
