mod LineLemmas
mod RowProofs
pub mod Ink
mod Cuts
mod Numbers
mod Hexadecimal
mod Peers
mod Same
mod Awaited
mod Inverse
mod FirstLines
pub mod OneText
pub mod FirstBad
pub mod Read
pub mod EntryLines
