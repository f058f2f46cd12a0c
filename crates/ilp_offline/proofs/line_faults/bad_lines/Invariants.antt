use Rattle.std.proofs.Common.{◌≡◌, ◌≤◌, ◌+◌, ◌++◌, length}
use Rattle.ilp_accounts.specs.Configuration.{peer_names}
use Rattle.ilp_offline.specs.Script.{lines_of}
use Rattle.ilp_offline.specs.BadLines.{bad_numbers, numbers}
use Rattle.ilp_offline.proofs.line_faults.bad_lines.Given as goal

-- what was found, and then the bad ones of the lines that are left, are those of all; there are no more lines than octets
abbrev pub invariant-loop-rest : goal.invariant-loop-rest
invariant-loop-rest g l = record {
  told : numbers l.found.items ++ bad_numbers (peer_names l.config.peers) l.number (lines_of l.rest) ≡ bad_numbers (peer_names l.config.peers) 1 (lines_of l.script);
  few : l.number + length l.rest ≤ 1 + length l.script;
}

abbrev pub decreases-loop-rest : goal.decreases-loop-rest
decreases-loop-rest g l = length l.rest
