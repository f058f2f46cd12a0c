use Rattle.std.proofs.Common.{◌≡◌, ℕ, List, [], Option, Some, None, ◌↔◌, refl, sym, ◌∙◌, ap, slice_get, inl, inr}
use Rattle.std.specs.Prelude.{IfSome, MatchOption}
use Rattle.ilp_flow.specs.declared.waiter.Waiter.{Waiter}
use Rattle.ilp_flow.specs.declared.waiter.Waiter.TheVariants.{Whole}
use Rattle.ilp_flow.specs.Closing.{lingers, is_partial, HasNone, IsClosedNext, IsOfMost}
use Rattle.ilp_flow.specs.Fullest.{HasNoWhole}
use Rattle.ilp_flow.proofs.Oldest.{oldest_is, none_is, none_waits}
use Rattle.ilp_flow.proofs.closing.closed_next.Goals as goal

pub returns-in-Some-clause-closed : goal.returns-in-Some-clause-closed
returns-in-Some-clause-closed c = inl (oldest_is lingers c.args.waiters.now c.in-Some.place (sym c.in-Some.ensures))

pub returns-in-Some-oldest_partial-clause-closed : goal.returns-in-Some-oldest_partial-clause-closed
returns-in-Some-oldest_partial-clause-closed c =
    let waiters = c.args.waiters.now in
    let partial = oldest_is is_partial waiters c.in-Some-oldest_partial.place (sym c.in-Some-oldest_partial.ensures) in
    inr (none_is lingers waiters (sym c.in_default.ensures), inl partial)

of_most : (waiters : List Waiter) (result : Option ℕ) → HasNone lingers waiters → HasNone is_partial waiters → MatchOption result (HasNoWhole waiters) (IsOfMost waiters) → IfSome result (IsClosedNext waiters)
of_most waiters None lingering partial whole = tt
of_most waiters (Some place) lingering partial most = inr (lingering, inr (partial, most))

pub returns-clause-closed : goal.returns-clause-closed
returns-clause-closed c =
    let waiters = c.args.waiters.now in
    of_most waiters c.newest_of_most.result (none_is lingers waiters (sym c.in_default.ensures)) (none_is is_partial waiters (sym c.in_default-oldest_partial.ensures)) c.newest_of_most.ensures

some_waits : (waiters : List Waiter) (result : Option ℕ) → HasNone lingers waiters → HasNone is_partial waiters → MatchOption result (HasNoWhole waiters) (IsOfMost waiters) → (result ≡ None) ↔ (waiters ≡ [])
some_waits waiters None lingering partial whole = ((λ e. none_waits waiters lingering partial whole), (λ e. refl))
some_waits waiters (Some place) lingering partial most = ((λ e. absurd cc), (λ e. absurd (let none : None ≡ Some (Whole most.sender) = ap (λ (ws : List Waiter). slice_get ws place) (sym e) ∙ most.stands in cc)))

pub returns-clause-none : goal.returns-clause-none
returns-clause-none c =
    let waiters = c.args.waiters.now in
    some_waits waiters c.newest_of_most.result (none_is lingers waiters (sym c.in_default.ensures)) (none_is is_partial waiters (sym c.in_default-oldest_partial.ensures)) c.newest_of_most.ensures
