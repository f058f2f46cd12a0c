pub mod Flow
pub mod Counts
pub mod Closing
pub mod Fullest
pub mod Rows
