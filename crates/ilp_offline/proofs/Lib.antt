pub mod FirstLine
pub mod Fields
pub mod Written
pub mod LineSteps
pub mod ScriptCalls
mod BadLines
