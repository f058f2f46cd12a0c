pub mod Changes
pub mod Mixing
pub mod Epochs
pub mod Disks
