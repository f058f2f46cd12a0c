pub mod Amounts
pub mod Keys
pub mod Sought
pub mod Totals
pub mod Why
