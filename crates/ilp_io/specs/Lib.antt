pub mod Counts
pub mod Pulls
pub mod Reading
pub mod Pieces
pub mod Writing
