use Rattle.std.proofs.Common.{ℕ, ◌<◌, get_or, take}
use Rattle.std.specs.List.{flat_map}
use Rattle.std.specs.Io.KnownBytes.{Appends}
use Rattle.ilp_io.specs.Counts.{CountsUp}
use Rattle.ilp_journal.specs.declared.entry.Entry.{Entry}
use Rattle.ilp_journal_text.specs.Reading.{IsTyped}
use Rattle.ilp_journal_text.specs.Text.{entry_line}
use Rattle.ilp_journal_text.proofs.writing.put_entries.Given as goal

-- the lines so far were written, no write failed, and the entries so far are of their types
abbrev pub invariant-loop-number : goal.invariant-loop-number
invariant-loop-number g l = record {
  wrote : Appends (g.W.Sink.contents l.fn.sink) (g.W.Sink.contents l.sink) (flat_map (entry_line l.config) (take l.number l.journal.entries));
  failed : CountsUp (g.W.Sink.failures l.fn.sink) (g.W.Sink.failures l.sink) 0;
  typed : (d : Entry) (k : ℕ) → k < l.number → IsTyped (get_or l.journal.entries k d);
}
