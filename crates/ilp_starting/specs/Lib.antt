pub mod Beginning
pub mod Configuring
pub mod Ended
pub mod Finding
pub mod Remembering
pub mod Sources
pub mod GoingOn
