pub mod Living
pub mod Past
pub mod Places
pub mod InMemory
pub mod OnAll
