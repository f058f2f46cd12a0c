pub mod OpenHolds
mod PeerNames
mod NextHeads
mod NextLawful
mod NextLists
mod NextSteps
mod NextBooks
mod NextJudging
mod NextEntries
