pub mod Printed
pub mod Logged
pub mod Where
pub mod Alone
