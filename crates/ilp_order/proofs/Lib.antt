pub mod RefusalLemmas
pub mod CheckLemmas
pub mod Sums
pub mod PlaceLemmas
pub mod DigitLemmas
pub mod Written
