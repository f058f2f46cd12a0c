use Rattle.std.proofs.Common.{◌≡◌, ℕ, ◌<◌, None}
use Rattle.ilp_journal.specs.Journal.{open_hold_at}
use Rattle.ilp_follows.proofs.ended.EndedPeriod.judge_holds.Given as goal

-- no hold so far is open
abbrev pub invariant-loop-number : goal.invariant-loop-number
invariant-loop-number l = (n : ℕ) → n < l.number → open_hold_at l.self.entries n ≡ None
