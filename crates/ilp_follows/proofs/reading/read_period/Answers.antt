use Rattle.std.proofs.Common.{Option, IfSome, sym, subst, ◌∙◌}
use Rattle.ilp_journal.specs.declared.entry.Entry.{Entry}
use Rattle.ilp_journal.specs.Journal.{Entries}
use Rattle.ilp_journal_text.specs.Reading.{HasRead, Takes}
use Rattle.ilp_journal_text.proofs.Read.{has_taken}
use Rattle.ilp_follows.proofs.reading.read_period.Goals as goal

-- one more was read
pub loop-read-preserved : goal.loop-read-preserved
loop-read-preserved c =
    let C = c.args.config.now in
    let text = c.args.text.now in
    let before : Entries = c.loop-read.read.journal.entries in
    let takes : Takes C c.in-Some.entry c.loop-read.lines c.next.new.self
    = subst (λ (o : Option Entry). IfSome o (λ (e : Entry). Takes C e c.loop-read.lines c.next.new.self)) c.in-Some.is c.in_ok-entry.ensures.entry in (
      subst (λ (es : Entries). HasRead C text es c.next.new.self) (sym c.in_ok-take.ensures.entries)
          (has_taken C text before c.in-Some.entry c.loop-read.lines c.next.new.self c.loop-read.invariant.0 takes),
      takes.period ∙ c.loop-read.invariant.1 ∙ sym c.in_ok-take.ensures.number,
    )
