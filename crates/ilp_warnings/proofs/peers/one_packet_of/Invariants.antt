use Rattle.std.proofs.Common.{◌≢◌, ℕ, ◌<◌}
use Rattle.ilp_warnings.specs.Meaning.{ReachesAtOnce}
use Rattle.ilp_warnings.proofs.peers.one_packet_of.Given as goal

abbrev pub invariant-loop-sender : goal.invariant-loop-sender
invariant-loop-sender l = (sender : ℕ) → sender < l.sender → sender ≢ l.peer → ¬ ReachesAtOnce l.config sender l.peer
