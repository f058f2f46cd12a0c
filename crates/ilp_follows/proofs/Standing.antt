-- What stands in the text of a period is of peers that are known, and what is found of what is open.
use Rattle.std.proofs.Common.{◌≡◌, ◌≢◌, ℕ, zero, suc, ◌+◌, ◌<◌, ◌≤◌, Bool, true, false, cond, ◌&&◌, All, List, [], ◌∷◌, length, Option, Some, None, refl, sym, ap, ap₂, ◌∙◌, subst, arith, inl, inr, slice_get, option_and_then, option_map, unwrap_or, IfSome, ◌==◌}
use Rattle.std.specs.Prelude.{IsNone, is_none}
use Rattle.std.specs.Str.{bytes_eq}
use Rattle.std.proofs.lemmas.Bool.{cases_lt, eqb-true, eq-eqb}
use Rattle.std.proofs.lemmas.Option.{get_or_from_slice_get, slice_get_within, slice_get_past}
use Rattle.std.proofs.lemmas.List.Elements.{All-get_or}
use Rattle.std.proofs.lemmas.Slice.Eq.{bytes_eq-Decides}
use Rattle.ilp_accounts.specs.Configuration.{Configuration}
use Rattle.ilp_journal.specs.declared.entry.Entry.{Entry}
use Rattle.ilp_journal.specs.declared.entry.What.{What}
use Rattle.ilp_journal.specs.declared.entry.What.TheVariants as what
use Rattle.ilp_journal.specs.declared.entry.Ask.{Ask}
use Rattle.ilp_journal.specs.declared.entry.Credited.{Credited}
use Rattle.ilp_journal.specs.declared.entry.Hold.{Hold}
use Rattle.ilp_order.specs.Places.{sum_from}
use Rattle.ilp_journal.specs.Journal.{Entries, as_ask, as_hold, is_unanswered, is_unclosed, of_ask, open_ask_at, open_asks, open_hold_at, paid_to}
use Rattle.ilp_journal.specs.Credits.{as_credit, credit_at, has_key, kept_at}
use Rattle.ilp_journal_text.specs.Reading.{StandsIn, WhatStands}
use Rattle.ilp_rules.specs.Book.{PlainBook}
use Rattle.ilp_rules.specs.Configured.{IsKnown}
use Rattle.ilp_rules.proofs.KeptOnce.{none_passes}
use Rattle.ilp_rules.proofs.Standing.{first_found}
use Rattle.ilp_next_period.specs.NextPeriod.{peer_asset, place_in_next, IsUnused, KeepsNoOtherKeys}
use Rattle.ilp_follows.specs.Follows.{KeepsAsset, is_unpaid_at}

-- ---- peers are known

credit_peer : (C : Configuration) (w : What) → WhatStands C w → IfSome (as_credit w) (λ (c : Credited). IsKnown C c.peer)
credit_peer C (what.Hold h) stands = tt
credit_peer C (what.Fulfilled hold preimage) stands = tt
credit_peer C (what.Released hold cause) stands = tt
credit_peer C (what.Credited c) stands = stands.peer
credit_peer C (what.Asked a) stands = tt
credit_peer C (what.Confirmed ask) stands = tt
credit_peer C (what.Undone ask) stands = tt
credit_peer C (what.Opened peer balance) stands = tt
credit_peer C (what.Known c) stands = stands.peer
credit_peer C (what.Pending peer amount key) stands = tt

ask_peer : (C : Configuration) (w : What) → WhatStands C w → IfSome (as_ask w) (λ (a : Ask). IsKnown C a.peer)
ask_peer C (what.Hold h) stands = tt
ask_peer C (what.Fulfilled hold preimage) stands = tt
ask_peer C (what.Released hold cause) stands = tt
ask_peer C (what.Credited c) stands = tt
ask_peer C (what.Asked a) stands = stands.0
ask_peer C (what.Confirmed ask) stands = tt
ask_peer C (what.Undone ask) stands = tt
ask_peer C (what.Opened peer balance) stands = tt
ask_peer C (what.Known c) stands = tt
ask_peer C (what.Pending peer amount key) stands = stands.0

-- what holds of all holds of the one at a place
all_at : {X : Type 0} (P : X → Type 0) (xs : List X) (n : ℕ) (x : X) → All P xs → slice_get xs n ≡ Some x → P x
all_at P xs n x all at = subst P (get_or_from_slice_get xs n x x at) (All-get_or P xs n x (slice_get_within xs n x at) all)

module _ (C : Configuration) (period : ℕ) (j : Entries) (stand : All (StandsIn C period) j) where
  pub credit_known : (n : ℕ) → IfSome (credit_at j n) (λ (c : Credited). IsKnown C c.peer)
  credit_known n = of (slice_get j n) refl
    where
      of : (o : Option Entry) → slice_get j n ≡ o → IfSome (option_and_then (λ (e : Entry). as_credit e.what) o) (λ (c : Credited). IsKnown C c.peer)
      of None at = tt
      of (Some e) at = credit_peer C e.what (all_at (StandsIn C period) j n e stand at).stands.what

  pub ask_known : (n : ℕ) → IfSome (open_ask_at j n) (λ (a : Ask). IsKnown C a.peer)
  ask_known n = by (is_unclosed j n) (of (slice_get j n) refl)
    where
      of : (o : Option Entry) → slice_get j n ≡ o → IfSome (option_and_then (λ (e : Entry). as_ask e.what) o) (λ (a : Ask). IsKnown C a.peer)
      of None at = tt
      of (Some e) at = ask_peer C e.what (all_at (StandsIn C period) j n e stand at).stands.what

      by : (b : Bool) → IfSome (option_and_then (λ (e : Entry). as_ask e.what) (slice_get j n)) (λ (a : Ask). IsKnown C a.peer)
          → IfSome (cond b (option_and_then (λ (e : Entry). as_ask e.what) (slice_get j n)) None) (λ (a : Ask). IsKnown C a.peer)
      by true known = known
      by false known = tt

-- ---- what is open

-- no hold stands past the end
pub none_past : (j : Entries) (n : ℕ) → length j ≤ n → open_hold_at j n ≡ None
none_past j n past = by (is_unanswered j n) (ap (option_and_then (λ (e : Entry). as_hold e.what)) (slice_get_past j n past))
  where
    by : (b : Bool) → option_and_then (λ (e : Entry). as_hold e.what) (slice_get j n) ≡ None → cond b (option_and_then (λ (e : Entry). as_hold e.what) (slice_get j n)) None ≡ None
    by true none = none
    by false none = refl

-- all were looked at
pub none_open : (j : Entries) (count : ℕ) → length j ≤ count → ((n : ℕ) → n < count → open_hold_at j n ≡ None) → (n : ℕ) → open_hold_at j n ≡ None
none_open j count all seen n = elim (cases_lt n count) [
  | inl before ↦ seen n before
  | inr after ↦ none_past j n (omega (arith, all, after))
]

module _ (j : Entries) (p : ℕ) where
  -- 1 where the settlement of a number is open, and to the peer
  abbrev counted : ℕ → Entry → ℕ
  counted n e = cond (is_unclosed j n) (of_ask (paid_to p) e.what) 0

  zero_from : (s : ℕ) (xs : Entries) → ((k : ℕ) (e : Entry) → slice_get xs k ≡ Some e → counted (s + k) e ≡ 0) → sum_from counted s xs ≡ 0
  zero_from s [] none = refl
  zero_from s (e ∷ es) none =
      let front : s + 0 ≡ s = omega arith in
      let here : counted s e ≡ 0 = subst (λ k. counted k e ≡ 0) front (none 0 e refl) in
      omega (arith, here, zero_from (s + 1) es (λ k d at. one k d (none (suc k) d at)))
    where
      one : (k : ℕ) (d : Entry) → counted (s + suc k) d ≡ 0 → counted (s + 1 + k) d ≡ 0
      one k d is = let same : s + suc k ≡ s + 1 + k = omega arith in subst (λ i. counted i d ≡ 0) same is

  at_least : (s : ℕ) (xs : Entries) (k : ℕ) (e : Entry) → slice_get xs k ≡ Some e → counted (s + k) e ≤ sum_from counted s xs
  at_least s [] k e at = absurd cc
  at_least s (d ∷ ds) zero e at =
      let same : d ≡ e = cc in
      let here : counted (s + 0) e ≡ counted s d = ap (λ k. counted k e) (omega arith) ∙ ap (counted s) (sym same) in
      omega (arith, here)
  at_least s (d ∷ ds) (suc k) e at =
      let there : counted (s + 1 + k) e ≡ counted (s + suc k) e = ap (λ i. counted i e) (omega arith) in
      omega (arith, at_least (s + 1) ds k e at, there)

  -- it is counted just where it is found unpaid
  counted_as : (n : ℕ) (e : Entry) → slice_get j n ≡ Some e → counted n e ≡ cond (is_unpaid_at j p n) 1 0
  counted_as n e at = by (is_unclosed j n) (as_ask e.what) refl
    where
      by : (b : Bool) (o : Option Ask) → as_ask e.what ≡ o → cond b (of_ask (paid_to p) e.what) 0
          ≡ cond (unwrap_or (option_map (λ (a : Ask). a.peer == p) (cond b (option_and_then (λ (d : Entry). as_ask d.what) (slice_get j n)) None)) false) 1 0
      by false o is = refl
      by true o is =
          ap (λ (q : Option Ask). unwrap_or (option_map (paid_to p) q) 0) is ∙ of o
          ∙ sym (ap (λ (q : Option Entry). cond (unwrap_or (option_map (λ (a : Ask). a.peer == p) (option_and_then (λ (d : Entry). as_ask d.what) q)) false) 1 0) at
          ∙ ap (λ (q : Option Ask). cond (unwrap_or (option_map (λ (a : Ask). a.peer == p) q) false) 1 0) is)
        where
          of : (q : Option Ask) → unwrap_or (option_map (paid_to p) q) 0 ≡ cond (unwrap_or (option_map (λ (a : Ask). a.peer == p) q) false) 1 0
          of None = refl
          of (Some a) = refl

  -- none is open where none is found
  pub all_paid : (count : ℕ) → length j ≤ count → ((n : ℕ) → n < count → is_unpaid_at j p n ≡ false) → open_asks j p ≡ 0
  unfolding open_asks
  all_paid count all none = zero_from 0 j (λ k e at. one k e (counted_as k e at ∙ ap (λ b. cond b 1 0) (none k (omega (arith, all, slice_get_within j k e at)))))
    where
      one : (k : ℕ) (e : Entry) → counted k e ≡ 0 → counted (0 + k) e ≡ 0
      one k e is = let same : k ≡ 0 + k = omega arith in subst (λ i. counted i e ≡ 0) same is

  -- and one is where one is found
  pub one_unpaid : (n : ℕ) → is_unpaid_at j p n ≡ true → open_asks j p ≢ 0
  unfolding open_asks
  one_unpaid n found none = of (slice_get j n) refl
    where
      by : (b : Bool) → unwrap_or (option_map (λ (a : Ask). a.peer == p) (cond b (option_and_then (λ (d : Entry). as_ask d.what) None) None)) false ≡ false
      by true = refl
      by false = refl

      of : (o : Option Entry) → slice_get j n ≡ o → ⊥
      of None at =
          let not : is_unpaid_at j p n ≡ false = ap (λ (q : Option Entry). unwrap_or (option_map (λ (a : Ask). a.peer == p) (cond (is_unclosed j n) (option_and_then (λ (d : Entry). as_ask d.what) q) None)) false) at ∙ by (is_unclosed j n) in
          let clash : true ≡ false = sym found ∙ not in cc
      of (Some e) at =
          let one : counted n e ≡ 1 = counted_as n e at ∙ ap (λ b. cond b 1 0) found in
          let whole : counted (0 + n) e ≤ sum_from counted 0 j = at_least 0 j n e at in
          let here : counted (0 + n) e ≡ counted n e = ap (λ k. counted k e) (omega arith) in
          omega (arith, one, whole, here, none)

-- ---- keys

-- where a key of a peer is kept, a credit of the peer stands
kept_stands : (j : Entries) (p n : ℕ) (key : List ℕ) → kept_at j p key ≡ Some n → (c : Credited) × (credit_at j n ≡ Some c) × (c.peer ≡ p) × (n < length j)
kept_stands j p n key is =
    let found = first_found (λ _ (e : Entry). has_key p key e.what) 0 n j is in
    let at : slice_get j n ≡ Some found.1 = subst (λ k. slice_get j k ≡ Some found.1) (omega (arith, found.2)) found.3 in
    of found.1 at found.4
  where
    both : (a b : Bool) → (a && b) ≡ true → a ≡ true
    both true b is = refl
    both false b is = cc

    of : (e : Entry) → slice_get j n ≡ Some e → has_key p key e.what ≡ true → (c : Credited) × (credit_at j n ≡ Some c) × (c.peer ≡ p) × (n < length j)
    of e at passes = credit (as_credit e.what) refl passes
      where
        credit : (o : Option Credited) → as_credit e.what ≡ o → unwrap_or (option_map (λ (c : Credited). (c.peer == p) && bytes_eq c.key key) o) false ≡ true
            → (c : Credited) × (credit_at j n ≡ Some c) × (c.peer ≡ p) × (n < length j)
        credit None is passes = absurd cc
        credit (Some c) is passes =
            (c, ap (option_and_then (λ (d : Entry). as_credit d.what)) at ∙ is, eqb-true c.peer p (both (c.peer == p) (bytes_eq c.key key) passes), slice_get_within j n e at)

-- where each credit is of a peer that keeps its asset, no key is kept of one whose asset differs
pub no_other_keys : (book : PlainBook) (next : Configuration) (count : ℕ) → length book.entries ≤ count → ((n : ℕ) → n < count → KeepsAsset book next n) → (p : ℕ) → KeepsNoOtherKeys book next p
no_other_keys book next count all same p q there differ key = of (kept_at book.entries p key) refl
  where
    of : (o : Option ℕ) → kept_at book.entries p key ≡ o → IsNone o
    of None is = refl
    of (Some n) is =
        let found = kept_stands book.entries p n key is in
        let its : KeepsAsset book next n = same n (omega (arith, found.3, all)) in
        let one : (r : ℕ) → place_in_next book.config next found.0.peer ≡ Some r → peer_asset book.config found.0.peer ≡ peer_asset next r
        = subst (λ (o : Option Credited). IfSome o (λ (c : Credited). (r : ℕ) → place_in_next book.config next c.peer ≡ Some r → peer_asset book.config c.peer ≡ peer_asset next r)) found.1 its in
        absurd (differ (subst (λ r. peer_asset book.config r ≡ peer_asset next q) found.2 (one q (subst (λ r. place_in_next book.config next r ≡ Some q) (sym found.2) there))))

-- a credit's key is kept, so its peer is not unused
pub is_used : (j : Entries) (n : ℕ) (c : Credited) → credit_at j n ≡ Some c → ¬ (IsUnused j c.peer)
is_used j n c is unused = of (kept_at j c.peer c.key) refl (unused.keys c.key)
  where
    passes : (e : Entry) → as_credit e.what ≡ Some c → has_key c.peer c.key e.what ≡ true
    passes e is =
        ap (λ (o : Option Credited). unwrap_or (option_map (λ (d : Credited). (d.peer == c.peer) && bytes_eq d.key c.key) o) false) is
        ∙ ap₂ ◌&&◌ (eq-eqb c.peer c.peer refl) ((bytes_eq-Decides c.key c.key).1 refl)

    of : (o : Option ℕ) → kept_at j c.peer c.key ≡ o → IsNone o → ⊥
    of (Some m) at none = cc
    of None at none = found (slice_get j n) refl is
      where
        found : (o : Option Entry) → slice_get j n ≡ o → option_and_then (λ (e : Entry). as_credit e.what) o ≡ Some c → ⊥
        found None stands is = cc
        found (Some e) stands is =
            let fails : has_key c.peer c.key e.what ≡ false = none_passes (λ (d : Entry). has_key c.peer c.key d.what) 0 j at n e stands in
            let yes : has_key c.peer c.key e.what ≡ true = passes e is in cc
