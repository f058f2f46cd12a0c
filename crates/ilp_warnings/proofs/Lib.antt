pub mod Keys
pub mod Targets
pub mod Keeping
pub mod SharedAddresses
pub mod KeysTold
pub mod Levels
