use Rattle.std.proofs.Common.{sym, subst, ◌∙◌}
use Rattle.std.proofs.lemmas.Bool.{false≢true}
use Rattle.std.specs.Prelude.{IsSome}
use Rattle.ilp_journal.specs.Keys.{IsKey}
use Rattle.ilp_next_period.proofs.settlement_key.settlement_key.Goals as goal

-- the text is a key
pub unreachable-requires : goal.unreachable-requires
unreachable-requires c =
    let fits = subst IsKey (sym (c.as_bytes.ensures.value ∙ c.in_ok-text.ensures)) c.requires in
    false≢true (subst IsSome c.in-None.is (c.in_ok-key.ensures.made.1 fits))
