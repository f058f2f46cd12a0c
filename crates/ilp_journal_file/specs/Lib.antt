pub mod Files
pub mod Anew
pub mod Begun
