pub mod Counting
pub mod Ending
pub mod Limits
pub mod Most
pub mod Oldest
pub mod Rounds
pub mod RowProofs
pub mod Turns
