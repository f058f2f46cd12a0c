pub mod Refusals
pub mod Checks
pub mod Found
pub mod Places
