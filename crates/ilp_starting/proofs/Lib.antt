pub mod Whole
pub mod Heads
