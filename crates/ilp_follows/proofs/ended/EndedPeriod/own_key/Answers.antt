use Rattle.std.proofs.Common.{ℕ, sym, subst, ap₂, ◌∙◌}
use Rattle.std.proofs.lemmas.Bool.{false≢true}
use Rattle.std.specs.Prelude.{IsSome}
use Rattle.ilp_accounts.specs.Configuration.{Configuration}
use Rattle.ilp_journal.specs.Keys.{IsKey}
use Rattle.ilp_rules.specs.Heads.{settlement_key_of}
use Rattle.ilp_follows.proofs.OwnKey.{own_key_named}
use Rattle.ilp_follows.proofs.ended.EndedPeriod.own_key.Goals as goal

-- the text is a key
pub unreachable-requires : goal.unreachable-requires
unreachable-requires c =
    let book = c.args.self.now in
    let same = ap₂ (λ (C : Configuration) (period : ℕ). settlement_key_of C period c.args.number) c.config.ensures.value c.period.ensures.value in
    let fits = subst IsKey (sym (c.as_bytes.ensures.value ∙ c.in_ok-text.ensures ∙ same)) (own_key_named book.config book.period c.args.number c.config.ensures.valid c.period.ensures.fits c.ranges.number.fits) in
    false≢true (subst IsSome c.in-None.is (c.in_ok-key.ensures.made.1 fits))
