use Rattle.std.specs.Prelude.{List}
use Rattle.ilp_flow.specs.declared.passage.Passage.{Passage}
use Rattle.ilp_flow.specs.Counts.{HasCounts, IsBest}
use Rattle.ilp_flow.proofs.flow.Flow.next.Given as goal

-- of those that were looked at, the one that begins next
abbrev pub invariant-loop-place : goal.invariant-loop-place
invariant-loop-place l = (flying begun : List Passage) → HasCounts l.self flying begun → IsBest l.self.most flying begun l.waiting l.place l.best
