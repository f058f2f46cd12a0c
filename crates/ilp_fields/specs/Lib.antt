pub mod Keys
pub mod Forms
pub mod Named
pub mod Fields
pub mod Checks
pub mod FromAssets
pub use Rattle.ilp_order.specs.Checks as Order
pub use Rattle.ilp_assets.specs.Assets
pub use Rattle.ilp_packet.specs.Address
