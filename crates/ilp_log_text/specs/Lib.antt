pub mod Head
pub mod Text
pub mod Lines
pub mod Remembering
pub mod Rows
