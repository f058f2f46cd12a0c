-- What follows of checks where none of them has a fault.
use Rattle.std.proofs.Common.{◌≡◌, ◌≢◌, ℕ, suc, ◌≤◌, Bool, true, false, List, [], ◌∷◌, ◌++◌, length, get_or, map, Option, Some, None, refl, ap, sym, ◌∙◌, arith, append_assoc, append-nil, All}
use Rattle.std.proofs.lemmas.Bool.{false≢true}
use Rattle.std.proofs.lemmas.List.{map-append, length-append, length-map}
use Rattle.std.proofs.lemmas.Slice.Eq.{bytes_eq-Decides}
use Rattle.std.proofs.lemmas.List.Folds.{list_any_at}
use Rattle.std.proofs.lemmas.List.Elements.{All-nil, All-cons, All-push}
use Rattle.std.proofs.lemmas.List.Quantifiers.{all_pairs_push}
use Rattle.std.specs.Str.{bytes_eq}
use Rattle.std.specs.List.{cons_option}
use Rattle.toml.specs.Data.{Data, Members, as_table}
use Rattle.ilp_fields.specs.Fields.{tables}
use Rattle.ilp_order.specs.Checks.{first_of}
use Rattle.ilp_order.proofs.CheckLemmas.{first_of-None, passed}
use Rattle.ilp_fields.specs.declared.fault.ConfigFault.{ConfigFault}
use Rattle.ilp_fields.specs.Checks.{fault_unless, first_beside}
use Rattle.ilp_accounts.specs.Faults.{is_among}
use Rattle.ilp_accounts.specs.Valid.{AreDistinct}

pub unless-None : (fits : Bool) (fault : ConfigFault) → fault_unless fits fault ≡ None → fits ≡ true
unless-None true fault none = refl
unless-None false fault none = cc

-- what each of several has that has no fault, all have
pub All-mapped : {X R E : Type 0} (fault : X → Option E) (give : X → R) (P : R → Type 0) → ((x : X) → fault x ≡ None → P (give x)) → (xs : List X) → first_of (map fault xs) ≡ None → All P (map give xs)
All-mapped fault give P each [] none = All-nil P
All-mapped fault give P each (x ∷ xs) none =
    let parts = first_of-None (fault x) (map fault xs) none in
    All-cons P (give x) (map give xs) (each x parts.0) (All-mapped fault give P each xs parts.1)

-- what is unlike all texts so far keeps them distinct
distinct_push : (texts : List (List ℕ)) (text : List ℕ) → AreDistinct texts → is_among text texts ≡ false → AreDistinct (texts ++ text ∷ [])
distinct_push texts text h fresh = all_pairs_push (λ x z. x ≢ z) texts text h (λ k d inside same.
    false≢true (sym fresh ∙ list_any_at (bytes_eq text) texts k d inside ((bytes_eq-Decides text (get_or texts k d)).1 (sym same))))

pub distinct_none : AreDistinct []
distinct_none i j d below inside = absurd (omega arith)

module _ {R : Type 0} (fault : List R → Members → Option ConfigFault) (give : Members → R) where
  -- the first of several tables has no fault beside those before it, and neither have the rest
  turn : (before : List R) (t : Members) (ts : List Members) → first_beside fault give before (t ∷ ts) ≡ None
      → (fault before t ≡ None) × (first_beside fault give (before ++ give t ∷ []) ts ≡ None)
  turn before t ts none =
      let checks = fault before t ∷ first_beside fault give (before ++ give t ∷ []) ts ∷ [] in
      (passed checks none 0, passed checks none 1)

  -- what every table without a fault gives, all of them give
  pub All-beside : (P : R → Type 0) → ((before : List R) (t : Members) → fault before t ≡ None → P (give t)) → (before : List R) (ts : List Members) → All P before → first_beside fault give before ts ≡ None → All P (before ++ map give ts)
  All-beside P each before [] h none = rw append-nil h
  All-beside P each before (t ∷ ts) h none =
      let here = turn before t ts none in
      rw (← append_assoc before (give t ∷ []) (map give ts)) (All-beside P each (before ++ give t ∷ []) ts (All-push P before (give t) h (each before t here.0)) here.1)

  -- where a table that repeats a text has a fault, the texts are distinct
  pub distinct_beside : (text : R → List ℕ) → ((before : List R) (t : Members) → fault before t ≡ None → is_among (text (give t)) (map text before) ≡ false) → (before : List R) (ts : List Members) → AreDistinct (map text before) → first_beside fault give before ts ≡ None → AreDistinct (map text (before ++ map give ts))
  distinct_beside text each before [] h none = rw append-nil h
  distinct_beside text each before (t ∷ ts) h none =
      let here = turn before t ts none in
      let more : AreDistinct (map text (before ++ give t ∷ [])) = rw (map-append text before (give t ∷ [])) (distinct_push (map text before) (text (give t)) h (each before t here.0)) in
      rw (← append_assoc before (give t ∷ []) (map give ts)) (distinct_beside text each (before ++ give t ∷ []) ts more here.1)

-- there are at most as many tables as values
few_tables : (values : List Data) → length (tables values) ≤ length values
few_tables [] = omega arith
few_tables (value ∷ values) = by (as_table value) (tables values) (few_tables values)
  where
    by : (t : Option Members) (ts : List Members) → length ts ≤ length values → length (cons_option t ts) ≤ suc (length values)
    by None ts few = omega (arith, few)
    by (Some t) ts few = omega (arith, few)

-- what was read so far is no more than the values
pub few_so_far : {R : Type 0} (give : Members → R) (before : List R) (left : List Members) (values : List Data) → before ++ map give left ≡ map give (tables values) → length before ≤ length values
few_so_far give before left values whole =
    let parts = length-append before (map give left) in
    let all = length-map (tables values) give in
    let few = few_tables values in
    omega (arith, parts, all, few, ap length whole)
