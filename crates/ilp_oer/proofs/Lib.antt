pub mod Spellings
pub mod Faults
