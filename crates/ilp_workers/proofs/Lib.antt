pub mod Sessions
pub mod Sending
pub mod Booking
pub mod Halving
pub mod CreditSessions
pub mod EngineMessages
