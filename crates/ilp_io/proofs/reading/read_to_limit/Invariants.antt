use Rattle.std.proofs.Common.{◌+◌, ◌-◌, ◌≤◌, vec_len}
use Rattle.std.specs.Io.KnownBytes.{Consumes}
use Rattle.ilp_io.specs.Counts.{TalliesUpTo}
use Rattle.ilp_io.proofs.reading.read_to_limit.Given as goal

-- the octets so far came from the source, at least one with each read
abbrev pub invariant-loop-count : goal.invariant-loop-count
invariant-loop-count g l = record {
  read : Consumes (g.S.Source.remaining l.fn.source) (g.S.Source.remaining l.source) l.taken.items;
  counted : TalliesUpTo (g.S.Source.tally l.fn.source) (g.S.Source.tally l.source) (vec_len l.taken) 0;
  within : vec_len l.taken ≤ l.limit;
}

abbrev pub decreases-loop-count : goal.decreases-loop-count
decreases-loop-count g l = l.limit + 1 - vec_len l.taken
