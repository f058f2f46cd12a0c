use Rattle.std.proofs.Common.{ℕ, List, Option, unwrap_or, w64, rules, sym, ap₂, subst, ◌∙◌}
use Rattle.std.specs.Prelude.{FitsSigned}
use Rattle.std.proofs.lemmas.Int.{to_z-of_z}
use Rattle.ilp_accounts.specs.Configuration.{Configuration}
use Rattle.ilp_journal.specs.Keys.{IsKey}
use Rattle.ilp_rules.specs.Heads.{settlement_key_of}
use Rattle.ilp_rules.proofs.OwnKeys.{key_named}
use Rattle.ilp_next_period.proofs.ending_period.EndingPeriod.pending_entry.Goals as goal

-- the key of an earlier period
pub returns-in-Some : goal.returns-in-Some
returns-in-Some g c =
    let fits : FitsSigned w64 c.args.moment = search rules in
    rw (sym c.in-Some.ensures.value, sym (to_z-of_z w64 c.args.moment fits)) c.pending.ensures

-- that of this one is a key, and comes next
pub settlement_key-requires : goal.settlement_key-requires
settlement_key-requires g c =
    let book = c.args.self.now in
    let n = c.args.number in
    let own : IsKey (settlement_key_of book.config book.period n)
    = subst (λ (o : Option (List ℕ)). IsKey (unwrap_or o (settlement_key_of book.config book.period n))) (sym c.in-None.ensures.value) (key_named book n c.args.ask c.config-in-None.ensures.valid c.in-None.ensures.lawful c.requires) in
    rw (c.config-in-None.ensures.value, c.period.ensures) own

pub returns-in_ok-key-in-None : goal.returns-in_ok-key-in-None
returns-in_ok-key-in-None g c =
    let fits : FitsSigned w64 c.args.moment = search rules in
    let own = c.in_ok-key-in-None.ensures ∙ ap₂ (λ (C : Configuration) (period : ℕ). settlement_key_of C period c.args.number) c.config-in-None.ensures.value c.period.ensures in
    rw (sym c.in-None.ensures.value, sym own, sym (to_z-of_z w64 c.args.moment fits)) c.pending-in-None.ensures
