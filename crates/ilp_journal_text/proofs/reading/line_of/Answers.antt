use Rattle.std.proofs.Common.{Some, None, take, ap, subst, ◌∙◌}
use Rattle.memchr.specs.Find.{IsFirstByte, is_byte}
use Rattle.ilp_journal_text.proofs.Cuts.{first_end, has_end}
use Rattle.ilp_journal_text.proofs.reading.line_of.Goals as goal

pub returns-in-Some : goal.returns-in-Some
returns-in-Some c = λ line after none whole.
    let first = subst (λ text. IsFirstByte (is_byte 10) text (Some c.in-Some.end)) whole c.in-Some.ensures in
    ap (take c.in-Some.end) whole ∙ first_end line after none c.in-Some.end first

pub returns-in-None : goal.returns-in-None
returns-in-None c = λ line after none whole.
    has_end line after none (subst (λ text. IsFirstByte (is_byte 10) text None) whole c.in-None.ensures)
