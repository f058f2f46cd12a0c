use Rattle.std.proofs.Common.{◌≡◌, ℕ, ◌<◌, false}
use Rattle.ilp_follows.specs.Follows.{is_unpaid_at}
use Rattle.ilp_follows.proofs.ended.EndedPeriod.is_paid.Given as goal

-- none so far is open to the peer
abbrev pub invariant-loop-number : goal.invariant-loop-number
invariant-loop-number l = (n : ℕ) → n < l.number → is_unpaid_at l.self.entries l.peer n ≡ false
