use Rattle.std.proofs.Common.{refl, subst}
use Rattle.std.specs.Prelude.{IsTrue}
use Rattle.std.proofs.lemmas.Bool.{false≢true}
use Rattle.std.proofs.lemmas.Bool.Decides.{Decides-eqb}
use Rattle.std.proofs.lemmas.Slice.Eq.{starts_is}
use Rattle.ilp_log_text.specs.Text.{PlainLogText, IsIn}
use Rattle.ilp_log_text.proofs.Later.{no_journal, is_in, has_begun}
use Rattle.ilp_log_text.proofs.reading.LogText.is_in.Goals as goal

pub returns-in-Some : goal.returns-in-Some
returns-in-Some c =
    let saved = c.args.saved.now in
    let text = c.whole_lines.result.now in
    let entries = c.in-Some.entries.now in
    let rest = c.behind_lines.result.now in
    let lines = c.self.inside.lines.now in
    let starts = starts_is Decides-eqb rest lines c.starts_with.result c.starts_with.ensures.value in
    let there = is_in _ saved text entries rest lines c.whole_lines.ensures.lines c.in-Some.ensures.some c.behind_lines.ensures.text c.behind_lines.ensures.lines c.self.invariant refl in
    let back = has_begun _ saved text entries rest lines c.whole_lines.ensures.lines c.in-Some.ensures.some c.behind_lines.ensures.text c.behind_lines.ensures.lines c.self.invariant refl in
    subst (λ (log : PlainLogText). (IsTrue c.starts_with.result → IsIn log saved) × (IsIn log saved → IsTrue c.starts_with.result)) c.self.view_is
    (λ is. there _ (starts.0 is), λ has. let begun = back has in starts.1 begun.0 begun.1)

pub returns-in-None : goal.returns-in-None
returns-in-None c = (
  λ is. absurd (false≢true is),
  λ has. absurd (no_journal c.args.self.now c.args.saved.now c.whole_lines.result.now c.whole_lines.ensures.lines c.in-None.ensures.none has),
)
