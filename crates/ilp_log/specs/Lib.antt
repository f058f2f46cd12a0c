pub mod Lines
pub mod Log
pub use Rattle.ilp_accounts.specs.Configuration
pub use Rattle.ilp_journal.specs.Journal
pub use Rattle.ilp_desk.specs.Desk
