use Rattle.std.proofs.Common.{◌≢◌, ℕ, ◌<◌}
use Rattle.ilp_warnings.specs.Meaning.{CanSend}
use Rattle.ilp_warnings.proofs.routes.is_unpriced.Given as goal

abbrev pub invariant-loop-sender : goal.invariant-loop-sender
invariant-loop-sender l = (sender : ℕ) → sender < l.sender → sender ≢ l.peer → ¬ CanSend l.config sender l.peer
