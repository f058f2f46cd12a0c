pub mod Sweeper
pub mod Settler
pub mod Asking
pub mod Halves
