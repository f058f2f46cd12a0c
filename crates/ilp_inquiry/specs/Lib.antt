pub mod Asked
pub mod Faults
