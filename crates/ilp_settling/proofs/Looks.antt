-- What one look more at a peer's balance makes of since when it is seen at its threshold or above.
use Rattle.std.proofs.Common.{◌≡◌, true, false, List, [], ◌∷◌, ◌++◌, refl, ap, ◌∙◌}
use Rattle.std.specs.Prelude.{All, Option, Some, None, unwrap_or}
use Rattle.std.specs.declared.time.Duration.{Duration}
use Rattle.std.proofs.lemmas.List.{append_assoc}
use Rattle.std.proofs.lemmas.List.Elements.{All-nil, All-cons, All-append}
use Rattle.ilp_settling.specs.Waiting.{Look, look, last_reaches, ReachesSince, IsReached}

-- the first look that found it there
reaches_now : (looks : List Look) (now : Duration) → last_reaches looks ≡ false → ReachesSince (looks ++ look now true ∷ []) now
reaches_now looks now before = record {
  earlier = looks;
  first = look now true;
  later = [];
  are = refl;
  at = refl;
  reach = All-cons (λ (l : Look). l.reaches ≡ true) (look now true) [] refl (All-nil (λ (l : Look). l.reaches ≡ true));
  before = before;
}

-- one behind others that did
reaches_on : (looks : List Look) (since now : Duration) → ReachesSince looks since → ReachesSince (looks ++ look now true ∷ []) since
reaches_on looks since now r =
    let one : All (λ (l : Look). l.reaches ≡ true) (look now true ∷ []) = All-cons (λ (l : Look). l.reaches ≡ true) (look now true) [] refl (All-nil (λ (l : Look). l.reaches ≡ true)) in
    record {
      earlier = r.earlier;
      first = r.first;
      later = r.later ++ look now true ∷ [];
      are = ap (λ ls. ls ++ look now true ∷ []) r.are ∙ append_assoc r.earlier (r.first ∷ r.later) (look now true ∷ []);
      at = r.at;
      reach = All-append (λ (l : Look). l.reaches ≡ true) (r.first ∷ r.later) (look now true ∷ []) r.reach one;
      before = r.before;
    }

-- a look more that found it there
pub reached_on : (looks : List Look) (reached : Option Duration) (now : Duration) → IsReached looks reached → ReachesSince (looks ++ look now true ∷ []) (unwrap_or reached now)
reached_on looks None now is = reaches_now looks now is
reached_on looks (Some since) now is = reaches_on looks since now is
