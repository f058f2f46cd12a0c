pub mod Alike
pub mod Rows
pub use Rattle.ilp_book.specs.Run
pub use Rattle.ilp_next_period.specs.NextPeriod
