pub mod Fine
