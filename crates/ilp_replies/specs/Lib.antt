pub mod Rejects
pub mod Rows
pub mod Replies
pub mod Messages
pub mod EngineMessage
