pub mod Logging
pub mod Serving
