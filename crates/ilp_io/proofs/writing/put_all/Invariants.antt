use Rattle.std.proofs.Common.{◌≡◌, ◌++◌, List, ℕ, length}
use Rattle.std.specs.Io.KnownBytes.{Appends}
use Rattle.ilp_io.specs.Counts.{CountsUp}
use Rattle.ilp_io.proofs.writing.put_all.Given as goal

-- what was written, and then the rest, are the octets
abbrev pub invariant-loop-rest : goal.invariant-loop-rest
invariant-loop-rest g l = record {
  written : (written : List ℕ) × (l.fn.octets ≡ written ++ l.rest)
      × Appends (g.W.Sink.contents l.fn.sink) (g.W.Sink.contents l.sink) written;
  failed : CountsUp (g.W.Sink.failures l.fn.sink) (g.W.Sink.failures l.sink) 0;
}

abbrev pub decreases-loop-rest : goal.decreases-loop-rest
decreases-loop-rest g l = length l.rest
