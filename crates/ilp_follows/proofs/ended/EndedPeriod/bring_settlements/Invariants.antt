use Rattle.std.proofs.Common.{◌≡◌, ◌++◌}
use Rattle.ilp_follows.specs.Follows.{settlements_of}
use Rattle.ilp_follows.proofs.ended.EndedPeriod.bring_settlements.Given as goal

-- the settlements so far are brought forward
abbrev pub invariant-loop-number : goal.invariant-loop-number
invariant-loop-number l = l.head.items ≡ l.initial.head.items ++ settlements_of l.self l.config l.number
