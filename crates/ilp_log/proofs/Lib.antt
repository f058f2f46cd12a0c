pub mod Begins
pub mod Logs
pub mod Runs
pub mod Anew
mod Spelled
mod Grouping
