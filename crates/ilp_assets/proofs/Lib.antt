pub mod Fractions
pub mod Sameness
pub mod Finding
pub mod Rates
pub mod Places
pub mod Growing
pub mod Verdicts
pub mod RowProofs
