pub mod Telling
pub mod Keepers
pub mod Handing
