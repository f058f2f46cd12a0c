pub mod Outcomes
pub mod Later
pub mod Running
pub mod Asking
pub mod Standing
pub mod Behind
pub mod CreditBehind
