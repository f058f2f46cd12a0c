use Rattle.std.proofs.Common.{◌≡◌, ◌++◌, ℕ, sym, subst}
use Rattle.ilp_journal_text.specs.Text.{first_line}
use Rattle.ilp_follows.proofs.following.period_of.Goals as goal

pub returns-in-Ok-clause-some : goal.returns-in-Ok-clause-some
returns-in-Ok-clause-some c = record {
  after = c.in-Ok.text.rest;
  whole = subst (λ (period : ℕ). c.args.text.now ≡ first_line period ++ c.in-Ok.text.rest) (sym c.period.ensures) c.in-Ok.ensures.ok.whole;
}
