pub mod CheckText
pub mod PacketText
pub mod Printable
pub use Rattle.ilp_refusals.specs.Refusals
