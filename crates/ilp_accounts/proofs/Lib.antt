pub mod Passing
pub mod Lookups
pub mod Turns
pub mod FieldLaws
pub mod PeerLaws
pub mod ValidLaws
