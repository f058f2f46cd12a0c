use Rattle.std.proofs.Common.{◌≡◌}
use Rattle.ilp_rules.specs.Book.{extended}
use Rattle.ilp_rules.proofs.Ending.{ends_to}
use Rattle.ilp_rules.proofs.carrying.Carrying.end_holds.Given as goal

-- the open holds so far have ended
abbrev pub invariant-loop-number : goal.invariant-loop-number
invariant-loop-number g l = l.self ≡ extended l.fn.self (ends_to l.moment l.fn.self.entries l.number)
