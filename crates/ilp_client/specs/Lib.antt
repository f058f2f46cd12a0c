pub mod Requests
pub mod Exchange
pub mod Replies
