use Rattle.std.proofs.Common.{◌≡◌, ◌≢◌, ℕ, Option, true, false, sym, subst, ◌∙◌, rules}
use Rattle.std.specs.Prelude.{FitsSigned, IfSome, IsSomeAnd}
use Rattle.std.specs.Int.{w128}
use Rattle.std.proofs.lemmas.Int.{to_z-of_z}
use Rattle.ilp_accounts.specs.Configuration.{Configuration}
use Rattle.ilp_journal.specs.declared.entry.Credited.{Credited}
use Rattle.ilp_rules.specs.Configured.{IsKnown}
use Rattle.ilp_next_period.specs.NextPeriod.{peer_asset}
use Rattle.ilp_follows.proofs.Standing.{is_used}
use Rattle.ilp_follows.proofs.ended.EndedPeriod.judge_key.Goals as goal

-- the peer has a key, and another asset
pub returns-then-not-has_same_asset-clause-err : goal.returns-then-not-has_same_asset-clause-err
returns-then-not-has_same_asset-clause-err c =
    let C = c.args.self.now.config in
    let credit = c.in-Some.credit.now in
    let fits : FitsSigned w128 c.balance-balance.result = search rules in
    let known : IsKnown C credit.peer = subst (λ (o : Option Credited). IfSome o (λ (d : Credited). IsKnown C d.peer)) (sym c.in-Some.ensures.value) c.in-Some.ensures.known in
    let other : peer_asset C credit.peer ≢ peer_asset c.args.config.now c.in-Some-place_in.place = λ one.
    let yes : c.has_same_asset.result ≡ true
    = c.has_same_asset.ensures.1 (subst (λ (D : Configuration). peer_asset D credit.peer ≡ peer_asset c.args.config.now c.in-Some-place_in.place) (sym c.config.ensures.value) one) in
    let clash : false ≡ true = sym c.if-not-has_same_asset.true ∙ yes in cc in (
      record { known = known; balance = to_z-of_z w128 c.balance-balance.result fits ∙ c.balance-balance.ensures.value },
      subst (λ (o : Option ℕ). IsSomeAnd o (λ q. peer_asset C credit.peer ≢ peer_asset c.args.config.now q)) c.in-Some-place_in.ensures.place other,
      is_used c.args.self.now.entries c.args.number credit (sym c.in-Some.ensures.value),
    )
