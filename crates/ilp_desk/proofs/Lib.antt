pub mod Callers
pub mod Sessions
pub mod Raising
pub mod Fulfilled
pub mod Splits
pub mod Walks
pub mod Gathered
pub mod Heads
