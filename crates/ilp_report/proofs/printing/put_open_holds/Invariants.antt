use Rattle.std.proofs.Common.{take}
use Rattle.std.specs.List.{flat_map}
use Rattle.std.specs.Io.KnownBytes.{Appends}
use Rattle.ilp_io.specs.Counts.{CountsUp}
use Rattle.ilp_report.specs.Report.{open_line}
use Rattle.ilp_report.proofs.printing.put_open_holds.Given as goal

-- the lines so far were written, and no write failed
abbrev pub invariant-loop-peer : goal.invariant-loop-peer
invariant-loop-peer g l = record {
  wrote : Appends (g.W.Sink.contents l.fn.sink) (g.W.Sink.contents l.sink) (flat_map open_line (take l.peer-index l.peers));
  failed : CountsUp (g.W.Sink.failures l.fn.sink) (g.W.Sink.failures l.sink) 0;
}
