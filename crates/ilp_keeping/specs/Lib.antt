pub mod Keeping
pub use Rattle.ilp_journal.specs.Journal
