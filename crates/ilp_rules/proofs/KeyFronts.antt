-- What keys of settlements begin with.
use Rattle.std.proofs.Common.{◌≡◌, ◌≢◌, ℕ, ◌+◌, ◌≤◌, ◌<◌, ◌^◌, Bool, true, false, cond, List, [], ◌∷◌, ◌++◌, length, drop, slice_index, Option, Some, None, refl, sym, ap, subst, ◌∙◌, arith, append_assoc, length-append, All}
use Rattle.std.specs.Prelude.{codes, ◌==◌, not, nat_lt, position, IsTrue, IsSomeAnd, MatchOption, ◌↔◌}
use Rattle.std.specs.Fmt.{decimal}
use Rattle.std.specs.List.{position_or_len}
use Rattle.std.specs.Str.Parse.{AllDigits}
use Rattle.std.proofs.lemmas.Bool.{false≢true, lt-ltb, ne_eqb}
use Rattle.std.proofs.lemmas.Fmt.{decimal_is_IsNumeral_wide}
use Rattle.std.proofs.lemmas.List.{append_cancel_left}
use Rattle.std.proofs.lemmas.List.Elements.{All-nil, All-cons, All-head, All-tail}
use Rattle.std.proofs.lemmas.Str.Parse.{digit_from_value}
use Rattle.ilp_rules.specs.Heads.{StartsWith, period_mark}

-- where they don't begin with the first of two parts, they don't with both
pub begins_not : (front more octets : List ℕ) → ((rest : List ℕ) → octets ≢ front ++ rest) → StartsWith octets (front ++ more) → ⊥
begins_not front more octets none begins = none (more ++ begins.0) (begins.1 ∙ append_assoc front more begins.0)

-- where they do, what follows begins with the other
module _ (front octets rest : List ℕ) (is : octets ≡ front ++ rest) where
  further : (more : List ℕ) → StartsWith rest more → StartsWith octets (front ++ more)
  further more begins = (begins.0, is ∙ ap (λ (o : List ℕ). front ++ o) begins.1 ∙ sym (append_assoc front more begins.0))

  behind : (more : List ℕ) → StartsWith octets (front ++ more) → StartsWith rest more
  behind more begins = (begins.0, append_cancel_left front rest (more ++ begins.0) (sym is ∙ begins.1 ∙ append_assoc front more begins.0))

  pub begins_on : (more : List ℕ) (told : Bool) → (IsTrue told ↔ StartsWith rest more) → (IsTrue told ↔ StartsWith octets (front ++ more))
  begins_on more told goes = (λ yes. further more (goes.0 yes), λ begins. goes.1 (behind more begins))

  -- and so it does with the mark of a period
  pub marks_on : (period : ℕ) (told : Bool)
      → (IsTrue told ↔ ((later : ℕ) × (period ≤ later) × (later < 2 ^ 32) × StartsWith rest (period_mark later)))
      → (IsTrue told ↔ ((later : ℕ) × (period ≤ later) × (later < 2 ^ 32) × StartsWith octets (front ++ period_mark later)))
  marks_on period told goes = (
    λ yes. let found = goes.0 yes in (found.0, found.1, found.2, further (period_mark found.0) found.3),
    λ begins. goes.1 (begins.0, begins.1, begins.2, behind (period_mark begins.0) begins.3),
  )

-- what a test of all of it tells
pub begins_or_not : (octets front : List ℕ) (told : Bool) → (told ≡ true → octets ≡ front ++ drop (length front) octets) × ((rest : List ℕ) → octets ≡ front ++ rest → told ≡ true)
    → (IsTrue told ↔ StartsWith octets front)
begins_or_not octets front told cases = (λ yes. (drop (length front) octets, cases.0 yes), λ begins. cases.1 begins.0 begins.1)

-- where nothing is so, no is the answer
pub untrue : {P : Type 0} → (P → ⊥) → (IsTrue false ↔ P)
untrue never = (λ no. absurd (false≢true no), λ p. absurd (never p))

-- what has no hyphen stands before the first one
module _ (after : List ℕ) where
  hyphen_place : (front : List ℕ) → All (λ octet. (octet == 45) ≡ false) front → position_or_len (λ octet. octet == 45) (front ++ 45 ∷ after) ≡ length front
  hyphen_place [] none = refl
  hyphen_place (x ∷ xs) none =
      let other : (x == 45) ≡ false = All-head (λ octet. (octet == 45) ≡ false) x xs none in
      ap (λ b. cond (not b) (1 + position_or_len (λ octet. octet == 45) (xs ++ 45 ∷ after)) 0) other
      ∙ ap (λ n. 1 + n) (hyphen_place xs (All-tail (λ octet. (octet == 45) ≡ false) x xs none)) ∙ omega arith

  pub hyphen_behind : (front : List ℕ) → All (λ octet. (octet == 45) ≡ false) front → position (λ octet. octet == 45) (front ++ 45 ∷ after) ≡ Some (length front)
  hyphen_behind front none =
      let within : length front < length (front ++ 45 ∷ after) = omega (arith, length-append front (45 ∷ after)) in
      ap (λ n. cond (nat_lt n (length (front ++ 45 ∷ after))) (Some n) None) (hyphen_place front none)
      ∙ ap (λ b. cond b (Some (length front)) None) (lt-ltb (length front) (length (front ++ 45 ∷ after)) within)

-- no digit is a hyphen
no_digit : (digits : List ℕ) → AllDigits 10 digits → All (λ octet. (octet == 45) ≡ false) digits
no_digit [] all = All-nil (λ octet. (octet == 45) ≡ false)
no_digit (x ∷ xs) all =
    All-cons (λ octet. (octet == 45) ≡ false) x xs (ne_eqb x 45 (λ same. omega (arith, same, (digit_from_value x all.0).0))) (no_digit xs all.1)

pub no_hyphen : (n : ℕ) → n < 2 ^ 32 → All (λ octet. (octet == 45) ≡ false) (decimal n)
no_hyphen n fits = no_digit (decimal n) (decimal_is_IsNumeral_wide n (omega (arith, fits))).0.1

-- ---- which period a key is of

-- what stands between the full stop and the first hyphen of a key is the number of its period
pub told_number : {R : Type 0} (now : R → List ℕ) (period : ℕ) (after octets rest : List ℕ) (found : Option R) → period < 2 ^ 32 → octets ≡ period_mark period ++ after
    → octets ≡ codes "." ++ rest
    → ((front behind : List ℕ) → All (λ octet. (octet == 45) ≡ false) front → rest ≡ front ++ 45 ∷ behind → IsSomeAnd found (λ x. now x ≡ front))
    → MatchOption found (period ≡ 0) (λ x. now x ≡ decimal period)
told_number {R} now period after octets rest found fits whole dot cut = by (period == 0) refl whole
  where
    told : (o : Option R) → IsSomeAnd o (λ x. now x ≡ decimal period) → MatchOption o (period ≡ 0) (λ x. now x ≡ decimal period)
    told None is = absurd is
    told (Some x) is = is

    by : (b : Bool) → (period == 0) ≡ b → octets ≡ cond b (codes "-") (codes "." ++ (decimal period ++ codes "-")) ++ after → MatchOption found (period ≡ 0) (λ x. now x ≡ decimal period)
    by true is first = absurd (omega (arith, ap (λ (l : List ℕ). slice_index l 0) (sym first ∙ dot)))
    by false is first =
        let behind : rest ≡ decimal period ++ 45 ∷ after
        = append_cancel_left (codes ".") rest ((decimal period ++ codes "-") ++ after) (sym dot ∙ first) ∙ append_assoc (decimal period) (codes "-") after in
        told found (cut (decimal period) after (no_hyphen period fits) behind)

-- so a key is of a period from this one on just where it is of the one whose number it tells
module _ (rest : List ℕ) (marked : ℕ) (fits : marked < 2 ^ 32) (only : (q : ℕ) (after : List ℕ) → q < 2 ^ 32 → rest ≡ period_mark q ++ after → marked ≡ q) where
  pub of_marked : (period : ℕ) (told : Bool) → (IsTrue told ↔ StartsWith rest (period_mark marked)) → period ≤ marked
      → (IsTrue told ↔ ((later : ℕ) × (period ≤ later) × (later < 2 ^ 32) × StartsWith rest (period_mark later)))
  of_marked period told goes later = (
    λ yes. (marked, later, fits, goes.0 yes),
    λ of. goes.1 (subst (λ q. StartsWith rest (period_mark q)) (sym (only of.0 of.3.0 of.2 of.3.1)) of.3),
  )

  pub of_none : (period : ℕ) → marked < period → (IsTrue false ↔ ((later : ℕ) × (period ≤ later) × (later < 2 ^ 32) × StartsWith rest (period_mark later)))
  of_none period earlier = untrue (λ of. omega (arith, earlier, of.1, only of.0 of.3.0 of.2 of.3.1))
