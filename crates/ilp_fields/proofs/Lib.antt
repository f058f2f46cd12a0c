pub mod Elements
pub mod Numbers
