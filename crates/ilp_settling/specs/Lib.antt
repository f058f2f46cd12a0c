pub mod Pauses
pub mod Rests
pub mod Waiting
