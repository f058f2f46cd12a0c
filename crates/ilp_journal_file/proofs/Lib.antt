pub mod Unchanged
pub mod Lasting
pub mod Growing
