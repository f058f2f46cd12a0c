use Rattle.std.proofs.Common.{◌≤◌}
use Rattle.ilp_journal_file.proofs.kept_text.front_of.Given as goal

-- it stays within the room
abbrev pub invariant-loop : goal.invariant-loop
invariant-loop g l = l.count ≤ 64
