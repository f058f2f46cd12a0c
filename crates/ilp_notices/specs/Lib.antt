pub mod TimeText
pub mod Doubling
pub mod Pace
pub mod Marks
