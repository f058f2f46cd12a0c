pub mod Correction
pub mod KeyTable
pub mod Quantity
pub mod Targets
