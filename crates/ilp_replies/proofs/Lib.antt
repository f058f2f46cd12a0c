pub mod Rejecting
pub mod EngineMessages
