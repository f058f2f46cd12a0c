pub mod Texts
pub mod Route
pub mod Answer
