pub mod Configuration
pub mod Faults
pub mod Limits
pub mod Valid
pub mod Views
pub use Rattle.ilp_fields.specs.Checks
pub use Rattle.ilp_fields.specs.Fields
pub use Rattle.ilp_fields.specs.Forms
pub use Rattle.ilp_fields.specs.Keys
pub use Rattle.ilp_lookup.specs.Texts
pub use Rattle.ilp_lookup.specs.Route
pub use Rattle.ilp_order.specs.Checks as Order
pub use Rattle.ilp_assets.specs.Assets
pub use Rattle.ilp_assets.specs.Quote
pub use Rattle.ilp_assets.specs.Faults as AssetFaults
