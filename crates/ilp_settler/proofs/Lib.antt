pub mod Sweeping
pub mod SettleSessions
pub mod TurnLemmas
pub mod Halving
