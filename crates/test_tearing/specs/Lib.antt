pub mod Tearing
pub mod Past
pub mod Files
