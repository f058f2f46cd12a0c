mod LineLemmas
mod AmountLemmas
mod NameLemmas
mod BalanceLemmas
mod RowProofs
