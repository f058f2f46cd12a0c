pub mod PeriodDue
pub mod Payouts
