use Rattle.std.proofs.Common.{◌≡◌, ◌++◌, length, ℕ, List}
use Rattle.std.specs.Io.KnownBytes.{Appends}
use Rattle.ilp_io.specs.Counts.{CountsUp}
use Rattle.ilp_offline.specs.Script.{lines_of}
use Rattle.ilp_offline.specs.Replay.{text_from}
use Rattle.ilp_offline.proofs.runner.print_lines.Given as goal

-- what was written, and then the text of the lines that are left, is the text of all; no write failed
abbrev pub invariant-loop-rest : goal.invariant-loop-rest
invariant-loop-rest g l = record {
  written : List ℕ;
  wrote : Appends (g.W.Sink.contents l.fn.writer) (g.W.Sink.contents l.writer) written;
  whole : written ++ text_from l.book (lines_of l.rest) ≡ text_from l.fn.book (lines_of l.text);
  writes : CountsUp (g.W.Sink.failures l.fn.writer) (g.W.Sink.failures l.writer) 0;
}

abbrev pub decreases-loop-rest : goal.decreases-loop-rest
decreases-loop-rest g l = length l.rest
