use Rattle.std.proofs.Common.{◌≡◌, length}
use Rattle.ilp_journal_text.specs.Reading.{HasRead}
use Rattle.ilp_follows.proofs.reading.read_period.Given as goal

-- the entries that were read so far
abbrev pub invariant-loop-read : goal.invariant-loop-read
invariant-loop-read l = HasRead l.config l.text l.read.journal.entries l.lines × (l.lines.period ≡ l.read.number)

-- less is left with each
abbrev pub decreases-loop-read : goal.decreases-loop-read
decreases-loop-read l = length l.lines.rest
