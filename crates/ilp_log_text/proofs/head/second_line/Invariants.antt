use Rattle.std.proofs.Common.{◌≡◌, ◌++◌, take}
use Rattle.std.specs.Prelude.{string_bytes}
use Rattle.std.specs.List.{flat_map}
use Rattle.ilp_remembered.specs.Remembered.{run_line}
use Rattle.ilp_log_text.specs.Head.{further_line}
use Rattle.ilp_log_text.proofs.head.second_line.Given as goal

-- the run and the peers so far
abbrev pub invariant-loop-peer : goal.invariant-loop-peer
invariant-loop-peer l = string_bytes l.line ≡ run_line l.config.settings.run ++ flat_map (further_line l.config) (take l.peer l.config.peers)
