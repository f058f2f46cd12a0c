use Rattle.std.proofs.Common.{◌≡◌, ◌++◌}
use Rattle.ilp_follows.specs.Follows.{credits_of}
use Rattle.ilp_follows.proofs.ended.EndedPeriod.bring_credits.Given as goal

-- the credits so far are brought forward
abbrev pub invariant-loop-number : goal.invariant-loop-number
invariant-loop-number l = l.head.items ≡ l.initial.head.items ++ credits_of l.self l.config l.number
