-- What look-ups say of the texts that were looked up.
use Rattle.std.proofs.Common.{◌≡◌, ℕ, ◌<◌, ◌↔◌, ◌≤◌, Bool, true, false, List, length, get_or, Option, Some, None, Result, Ok, Err, refl, sym, ◌∙◌, ap, arith, Contains}
use Rattle.std.specs.List.{position_or_len, slice_get}
use Rattle.std.specs.Str.{bytes_eq}
use Rattle.std.proofs.lemmas.Bool.{false≢true}
use Rattle.std.proofs.lemmas.Cmp.{nat_list_eq_equiv}
use Rattle.std.proofs.lemmas.List.Quantifiers.{position-Some}
use Rattle.std.proofs.lemmas.List.Sums.{fails_before_first}
use Rattle.std.proofs.lemmas.Grind.{common_steps}
use Rattle.std.proofs.lemmas.Map.Views.{Contains-from_any, list_any-from_Contains}
use Rattle.std.proofs.lemmas.Option.{slice_get-get_or, slice_get_within, get_or_from_slice_get}
use Rattle.std.proofs.lemmas.Slice.Eq.{bytes_eq-Decides}
use Rattle.ilp_lookup.specs.Texts.{IsPlaceOf}
use Rattle.ilp_lookup.specs.declared.fault.LookupFault.{LookupFault}
use Rattle.ilp_lookup.specs.declared.fault.LookupFault.TheVariants.{Double}
use Rattle.ilp_accounts.specs.Configuration.{place_named}
use Rattle.ilp_accounts.specs.Faults.{is_among}

not_among : (text : List ℕ) (texts : List (List ℕ)) → ¬ Contains texts text → is_among text texts ≡ false
not_among text texts none = by (is_among text texts) refl
  where
    by : (b : Bool) → is_among text texts ≡ b → is_among text texts ≡ false
    by false is = is
    by true is = absurd (none (Contains-from_any (λ x y. (bytes_eq-Decides x y).0) text texts is))

-- a look-up that failed found nothing that passes
nowhere : (names : List (List ℕ)) (name : List ℕ) → place_named names name ≡ None → (place : ℕ) → place < length names → bytes_eq name (get_or names place name) ≡ false
nowhere names name none place inside =
    let past : length names ≤ position_or_len (bytes_eq name) names = grind (arith, common_steps) in
    fails_before_first (bytes_eq name) names place name (omega (arith, inside, past))

-- the place of a text is where it stands first
pub placed : (names : List (List ℕ)) (name : List ℕ) (answer : Option ℕ) → IsPlaceOf names name answer → answer ≡ place_named names name
placed names name answer is = by answer is (place_named names name) refl
  where
    found : (place : ℕ) → place_named names name ≡ Some place → (place < length names) × (name ≡ get_or names place name)
    found place is =
        let first = position-Some (bytes_eq name) names place name is in
        (first.0, (bytes_eq-Decides name (get_or names place name)).0 first.1)

    here : (place : ℕ) → place_named names name ≡ Some place → slice_get names place ≡ Some name
    here place is = slice_get-get_or names place name (found place is).0 ∙ ap Some (sym (found place is).1)

    by : (answer : Option ℕ) → IsPlaceOf names name answer → (first : Option ℕ) → place_named names name ≡ first → answer ≡ place_named names name
    by None none None is = sym is
    by None none (Some place) is = absurd (none (place, (found place is).0, sym (found place is).1))
    by (Some place) there (Some other) is = ap Some (sym (there.1 other (here other is))) ∙ sym is
    by (Some place) there None is =
        let inside = slice_get_within names place name there.0 in
        absurd (false≢true (sym (nowhere names name is place inside) ∙ (bytes_eq-Decides name (get_or names place name)).1 (sym (get_or_from_slice_get names place name name there.0))))

-- An insertion of the octets of a text tells whether the text was there.
module _ {X : Type 0} (texts : List (List ℕ)) (text octets : List ℕ) (same : octets ≡ text) (inserted : Result X LookupFault) (double : (inserted ≡ Err Double) ↔ Contains texts octets) where
  -- it was not where the insertion was done
  pub fresh : (x : X) → inserted ≡ Ok x → is_among text texts ≡ false
  fresh x is = rw (← same) (not_among octets texts (λ there. never (sym is ∙ double.1 there)))
    where
      never : ◌≡◌ {A = Result X LookupFault} (Ok x) (Err Double) → ⊥
      never same = cc

  -- it was where the insertion was refused for it
  pub among : inserted ≡ Err Double → is_among text texts ≡ true
  among is = rw (← same) (list_any-from_Contains nat_list_eq_equiv octets texts (double.0 is))
