pub mod Text
pub mod Reading
pub mod Fields
pub mod Rows
pub use Rattle.ilp_accounts.specs.Configuration
pub use Rattle.ilp_journal.specs.Journal
