use denote.Bor.{Bor}
use Rattle.std.proofs.Common.{ℕ, List, Option, Some, None, sym, ap, subst, ◌∙◌, inr, arith}
use Rattle.std.proofs.lemmas.Bool.{false≢true}
use Rattle.std.specs.Prelude.{IsSomeAnd}
use Rattle.sha2.specs.Sha256.{sha256}
use Rattle.ilp_log_text.specs.Text.{PlainLogText, IsIn}
use Rattle.ilp_starting.specs.Ended.{IsPeriodOf}
use Rattle.ilp_starting.proofs.ended.aside_of.Goals as goal

-- what is kept is some text
some_text : (log : PlainLogText) (kept : Option (Bor (List ℕ))) → IsSomeAnd kept (λ text. IsIn log text.now) → (text : List ℕ) × IsIn log text
some_text log None is = absurd is
some_text log (Some text) is = (text.now, is)

-- The log doesn't go on from the text, which lacks what the log has; a text that is kept has it.
pub returns-then-is_kept_in-clause-over : goal.returns-then-is_kept_in-clause-over
returns-then-is_kept_in-clause-over g c = λ _.
    let octets = c.or_nothing-octets.ensures in
    let of_period = subst (λ (o : List ℕ). IsPeriodOf o c.period_of.result) octets c.period_of.ensures in
    let kept = some_text c.args.log.now c.octets_of.result (c.is_kept_in.ensures.0 c.if-is_kept_in.true) in
    inr (inr (
      λ goes. false≢true (sym c.if-is_of.false ∙ c.is_of.ensures.1 (goes ∙ sym (ap sha256 octets))),
      (c.period_of.result, of_period, omega (arith, c.in-Some.ensures)),
      kept,
    ))
