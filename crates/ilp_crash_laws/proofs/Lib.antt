pub mod Digest
pub mod Own
pub mod Reached
pub mod Recovered
