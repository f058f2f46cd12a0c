use Rattle.std.proofs.Common.{◌≡◌, map}
use Rattle.std.specs.List.{range_with_len}
use Rattle.ilp_report.specs.Report.{peer_account}
use Rattle.ilp_report.proofs.accounts.peer_accounts.Given as goal

-- those so far
abbrev pub invariant-loop-peer : goal.invariant-loop-peer
invariant-loop-peer g l = l.peers.items ≡ map (peer_account l.book) (range_with_len 0 l.peer)
