pub mod Meaning
pub mod Told
pub mod Complete
pub use Rattle.ilp_accounts.specs.Configuration
pub use Rattle.ilp_fields.specs.Fields
pub use Rattle.ilp_fields.specs.Keys
