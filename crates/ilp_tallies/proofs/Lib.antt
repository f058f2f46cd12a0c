mod RowLemmas
mod StepSums
mod StepLemmas
pub mod AskLemmas
pub mod Growing
mod Beginning
pub mod Rebasing
