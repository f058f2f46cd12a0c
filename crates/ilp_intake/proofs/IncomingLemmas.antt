-- What the octets of a request want, as more of them come.
use Rattle.std.proofs.Common.{◌≡◌, ℕ, Bool, ◌<◌, ◌≤◌, List, [], ◌++◌, length, drop, sym, subst, inr, arith, append_assoc, length-append, if◌then◌else◌}
use Rattle.std.proofs.Math.Logic.{∥∥₁_elim, ∥∥₁_map}
use Rattle.std.proofs.Math.Bridge.{le_prop}
use Rattle.std.proofs.lemmas.Bool.{cond_both}
use Rattle.std.proofs.lemmas.List.{take-append-drop, take-append-le, take_all, append-nil}
use Rattle.ilp_http.specs.Request.{HoldsRequest}
use Rattle.ilp_http.specs.Layout.{HasLineFeed, TakesLineFeed, IsInHead, IsInBody}
use Rattle.ilp_http.proofs.EarlyLemmas.{TakesLineFeed-none}
use Rattle.ilp_http.proofs.LawLemmas.{not_early}
use Rattle.ilp_intake.specs.Incoming.{Wants}
use Rattle.ilp_intake.specs.declared.incoming.Wanted.{Wanted}
use Rattle.ilp_intake.specs.declared.incoming.Wanted.TheVariants.{LineFeed, Body}

-- before any octets came, a line feed is wanted
pub Wants-first : (limit : ℕ) → Wants [] limit (LineFeed 0)
Wants-first limit = (omega arith, TakesLineFeed-none)

-- octets that begin a head want a line feed
pub Wants-in_head : (octets : List ℕ) (limit : ℕ) → IsInHead octets → Wants octets limit (LineFeed (length octets))
Wants-in_head octets limit at = (omega arith, subst TakesLineFeed (sym (take_all (length octets) octets (omega arith))) at.takes_line_feed)

-- octets that have a head want the rest of the body
pub Wants-in_body : (octets : List ℕ) (whole : ℕ) → IsInBody octets whole → Wants octets whole Body
Wants-in_body octets whole at = record {
  below = λ more few holds. not_early (octets ++ more) holds (inr (at.below more few));
  reached = at.reached;
}

-- as more octets come, what was wanted still is
pub Wants-append : (octets kept : List ℕ) (limit : ℕ) (wanted : Wanted) → Wants octets limit wanted → Wants (octets ++ kept) limit wanted
Wants-append octets kept limit (LineFeed seen) wants =
    (omega (arith, wants.0, length-append octets kept), subst TakesLineFeed (sym (take-append-le seen octets kept wants.0)) wants.1)
Wants-append octets kept limit Body wants = record {
  below = λ more few holds. wants.below (kept ++ more) (omega (arith, length-append octets kept, length-append kept more)) (subst HoldsRequest (append_assoc octets kept more) holds);
  reached = λ more enough. subst HoldsRequest (sym (append_assoc octets kept more)) (wants.reached (kept ++ more) (omega (arith, length-append octets kept, length-append kept more)));
}

-- where a piece was added or not, what was wanted still is
pub wants-added : (octets piece : List ℕ) (added : Bool) (limit : ℕ) (wanted : Wanted) → ∥ Wants octets limit wanted ∥₁
    → ∥ Wants (if added then octets ++ piece else octets) limit wanted ∥₁
wants-added octets piece added limit wanted wants =
    cond_both added (octets ++ piece) octets (λ xs. ∥ Wants xs limit wanted ∥₁)
    (λ _. ∥∥₁_map wants (Wants-append octets piece limit wanted)) (λ _. wants)

-- ---- what follows from what is wanted

-- the octets that were looked at are among those that came
pub seen_within : (octets : List ℕ) (limit seen : ℕ) (wanted : Wanted) → wanted ≡ LineFeed seen → ∥ Wants octets limit wanted ∥₁ → seen ≤ length octets
seen_within octets limit seen wanted is wants = ∥∥₁_elim wants le_prop (λ w. (subst (Wants octets limit) is w).0)

-- without a line feed behind a head that had not ended there is no request
pub none_in_head : (octets : List ℕ) (limit seen : ℕ) (wanted : Wanted) → wanted ≡ LineFeed seen → ∥ Wants octets limit wanted ∥₁
    → ¬ (HasLineFeed (drop seen octets)) → ¬ (HoldsRequest octets)
none_in_head octets limit seen wanted is wants none holds =
    let whole = subst HoldsRequest (sym (take-append-drop seen octets)) holds in
    ∥∥₁_elim wants (λ x y. absurd x) (λ w. none ((subst (Wants octets limit) is w).1 (drop seen octets) whole))

-- with fewer octets than a request has there is none
pub none_in_body : (octets : List ℕ) (limit : ℕ) (wanted : Wanted) → wanted ≡ Body → ∥ Wants octets limit wanted ∥₁ → length octets < limit → ¬ (HoldsRequest octets)
none_in_body octets limit wanted is wants few holds =
    ∥∥₁_elim wants (λ x y. absurd x)
    (λ w. (subst (Wants octets limit) is w).below [] (omega arith) (subst HoldsRequest (sym (append-nil octets)) holds))

-- with as many there is one
pub whole_in_body : (octets : List ℕ) (limit : ℕ) (wanted : Wanted) → wanted ≡ Body → ∥ Wants octets limit wanted ∥₁ → limit ≤ length octets → ∥ HoldsRequest octets ∥₁
whole_in_body octets limit wanted is wants enough =
    ∥∥₁_map wants (λ w. subst HoldsRequest (append-nil octets) ((subst (Wants octets limit) is w).reached [] (omega arith)))
