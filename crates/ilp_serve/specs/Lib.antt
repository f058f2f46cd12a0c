pub mod Following
pub mod NextBooks
pub mod Periods
pub mod Restart
