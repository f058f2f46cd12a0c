use Rattle.std.proofs.Common.{◌≡◌, ◌++◌}
use Rattle.ilp_follows.specs.Follows.{openings_of}
use Rattle.ilp_follows.proofs.ended.EndedPeriod.open_balances.Given as goal

-- the balances so far are opened
abbrev pub invariant-loop-place : goal.invariant-loop-place
invariant-loop-place l = l.head.items ≡ l.initial.head.items ++ openings_of l.self l.config l.place
