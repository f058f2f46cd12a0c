use Rattle.std.proofs.Common.{ℕ, length}
use Rattle.ilp_accounts.specs.Configuration.{Configuration}
use Rattle.ilp_journal.specs.Journal.{Entries}
use Rattle.ilp_journal_text.specs.Reading.{HasReadLines}
use Rattle.ilp_rules.specs.TakenUp.{AreTakenUp}
use Rattle.ilp_rules.proofs.TakingUp.{IsTakingUp}
use Rattle.ilp_rules.proofs.carrying.reading.TakingUp.take_lines.Given as goal

-- the entries that were read so far, and what came of them
abbrev pub invariant-loop-entry : goal.invariant-loop-entry
invariant-loop-entry g l =
    (C : Configuration) (period : ℕ) (before : Entries) → AreTakenUp C period before l.fn.self.carrying l.fn.self.taken → IsTakingUp (HasReadLines C l.text) C period before l.lines l.self.carrying l.self.taken

-- less is left with each
abbrev pub decreases-loop-entry : goal.decreases-loop-entry
decreases-loop-entry g l = length l.lines.rest
