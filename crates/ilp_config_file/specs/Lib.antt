pub mod ConfigReading
pub use Rattle.ilp_io.specs.Counts
pub use Rattle.ilp_io.specs.Reading
