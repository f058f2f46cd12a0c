pub mod Behind
pub mod Leading
pub mod Alone
