pub mod Assets
pub mod Faults
pub mod Quote
pub mod Table
pub mod Rows
pub use Rattle.ilp_order.specs.Refusals
pub use Rattle.ilp_order.specs.Checks
