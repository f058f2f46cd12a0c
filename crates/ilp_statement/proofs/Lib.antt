pub mod Entries
pub mod Balances
pub mod Lines
pub mod Sought
