use Rattle.std.specs.Prelude.{◌≡◌, ℕ, ◌<◌}
use Rattle.std.proofs.Common.{get_or}
use Rattle.ilp_desk.specs.Portion.{Holding}
use Rattle.ilp_desk.specs.Gathering.{records_of}
use Rattle.ilp_desk.proofs.gathering.agree.Given as goal

abbrev pub invariant-loop-end : goal.invariant-loop-end
invariant-loop-end g l = (k : ℕ) (d : Holding) → k < l.end-index → (get_or l.ends.items k d).share.actor ≡ l.actor → (get_or l.ends.items k d).records ≡ records_of l.book l.actor
