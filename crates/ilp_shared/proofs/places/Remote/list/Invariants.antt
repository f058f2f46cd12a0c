use Rattle.ilp_flow.specs.Counts.{AreKnownTo}
use Rattle.ilp_shared.proofs.places.Remote.list.Given as goal

-- the flow knows all that are listed
abbrev pub invariant-loop-place : goal.invariant-loop-place
invariant-loop-place l = AreKnownTo l.flow l.self.passages.items
