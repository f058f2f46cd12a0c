use Rattle.std.proofs.Common.{◌≡◌}
use Rattle.ilp_journal_text.proofs.fields.fields_of.Given as goal

-- the fields so far
abbrev pub invariant-loop-field : goal.invariant-loop-field
invariant-loop-field l = l.fields.items ≡ l.yielded
