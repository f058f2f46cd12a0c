pub mod Known
pub mod Rules
pub mod Standing
pub mod LawfulGrowth
pub mod InTime
pub mod Admitting
pub mod TableSteps
pub mod Keeping
mod HeadLemmas
mod JudgingHeads
mod KeyFronts
mod KeyOctets
mod PendingKeys
pub mod Judging
pub mod Ending
pub mod Rebasing
mod CarriedParts
mod TakingUp
mod CarriedBooks
pub mod Saved
mod Recovered
pub mod KeptOnce
pub mod OwnKeys
