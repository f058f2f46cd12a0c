-- What is found of peers and credits as the books are to be closed.
use Rattle.std.proofs.Common.{◌≡◌, ℕ, zero, suc, ◌+◌, ◌<◌, ◌≤◌, ℤ, Bool, true, false, cond, ◌&&◌, List, [], ◌∷◌, ◌++◌, length, get_or, Option, Some, None, refl, sym, ap, ap₂, ◌∙◌, subst, arith, slice_get, option_and_then, option_map, unwrap_or, is_some, IfSome, ◌==◌}
use Rattle.std.specs.Prelude.{IsNone}
use Rattle.std.specs.Str.{bytes_eq}
use Rattle.std.proofs.lemmas.Bool.{eqb-true, eq-eqb}
use Rattle.std.proofs.lemmas.Option.{slice_get_within, get_or_from_slice_get}
use Rattle.std.proofs.lemmas.Slice.Eq.{bytes_eq-Decides}
use Rattle.ilp_accounts.specs.Configuration.{Configuration}
use Rattle.ilp_journal.specs.declared.entry.Entry.{Entry}
use Rattle.ilp_journal.specs.declared.entry.What.{What}
use Rattle.ilp_journal.specs.declared.entry.What.TheVariants as what
use Rattle.ilp_journal.specs.declared.entry.Ask.{Ask}
use Rattle.ilp_journal.specs.declared.entry.Credited.{Credited}
use Rattle.ilp_order.specs.Places.{EachAfter, places_from}
use Rattle.ilp_journal.specs.Journal.{Entries, as_ask, ask_at}
use Rattle.ilp_journal.specs.Credits.{as_credit, credit_at, has_key, kept_at}
use Rattle.ilp_rules.specs.Book.{PlainBook}
use Rattle.ilp_rules.specs.Configured.{IsKnown}
use Rattle.ilp_rules.specs.CreditTables.{credit_numbers}
use Rattle.ilp_rules.specs.Lawful.{IsLawful, KeepsRule, KeepsRuleOf}
use Rattle.ilp_rules.proofs.KeptOnce.{none_passes}
use Rattle.ilp_rules.proofs.Standing.{first_found}
use Rattle.ilp_next_period.specs.NextPeriod.{peer_asset, place_in_next, IsUnused, KeepsNoOtherKeys}

-- ---- what stands in a lawful journal

-- what holds of each element holds of the one at a place
each_stands_at : {X : Type 0} (P : List X → X → Type 0) (before xs : List X) (n : ℕ) (x : X) → EachAfter P before xs → slice_get xs n ≡ Some x → (done : List X) × P done x
each_stands_at P before [] n x each at = absurd cc
each_stands_at P before (y ∷ ys) zero x each at = let same : y ≡ x = cc in (before, subst (P before) same each.0)
each_stands_at P before (y ∷ ys) (suc n) x each at = each_stands_at P (before ++ y ∷ []) ys n x each.1 at

-- the peer of a credit is known
credit_peer : (C : Configuration) (period base : ℕ) (j : Entries) (m : ℤ) (w : What) → KeepsRule C period base j m w → IfSome (as_credit w) (λ (c : Credited). IsKnown C c.peer)
credit_peer C period base j m (what.Hold h) rule = tt
credit_peer C period base j m (what.Fulfilled hold preimage) rule = tt
credit_peer C period base j m (what.Released hold cause) rule = tt
credit_peer C period base j m (what.Credited c) rule = rule.known
credit_peer C period base j m (what.Asked a) rule = tt
credit_peer C period base j m (what.Confirmed ask) rule = tt
credit_peer C period base j m (what.Undone ask) rule = tt
credit_peer C period base j m (what.Opened peer balance) rule = tt
credit_peer C period base j m (what.Known c) rule = rule.rule.0
credit_peer C period base j m (what.Pending peer amount key) rule = tt

-- and so is that of a settlement
ask_peer : (C : Configuration) (period base : ℕ) (j : Entries) (m : ℤ) (w : What) → KeepsRule C period base j m w → IfSome (as_ask w) (λ (a : Ask). IsKnown C a.peer)
ask_peer C period base j m (what.Hold h) rule = tt
ask_peer C period base j m (what.Fulfilled hold preimage) rule = tt
ask_peer C period base j m (what.Released hold cause) rule = tt
ask_peer C period base j m (what.Credited c) rule = tt
ask_peer C period base j m (what.Asked a) rule = rule.known
ask_peer C period base j m (what.Confirmed ask) rule = tt
ask_peer C period base j m (what.Undone ask) rule = tt
ask_peer C period base j m (what.Opened peer balance) rule = tt
ask_peer C period base j m (what.Known c) rule = tt
ask_peer C period base j m (what.Pending peer amount key) rule = rule.rule.0

module _ (book : PlainBook) (lawful : IsLawful book) where
  pub credit_known : (n : ℕ) → IfSome (credit_at book.entries n) (λ (c : Credited). IsKnown book.config c.peer)
  credit_known n = of (slice_get book.entries n) refl
    where
      of : (o : Option Entry) → slice_get book.entries n ≡ o → IfSome (option_and_then (λ (e : Entry). as_credit e.what) o) (λ (c : Credited). IsKnown book.config c.peer)
      of None at = tt
      of (Some e) at = let stands = each_stands_at (KeepsRuleOf book) [] book.entries n e lawful.rules at in credit_peer book.config book.period book.base stands.0 e.moment e.what stands.1

  pub ask_known : (n : ℕ) → IfSome (ask_at book.entries n) (λ (a : Ask). IsKnown book.config a.peer)
  ask_known n = of (slice_get book.entries n) refl
    where
      of : (o : Option Entry) → slice_get book.entries n ≡ o → IfSome (option_and_then (λ (e : Entry). as_ask e.what) o) (λ (a : Ask). IsKnown book.config a.peer)
      of None at = tt
      of (Some e) at = let stands = each_stands_at (KeepsRuleOf book) [] book.entries n e lawful.rules at in ask_peer book.config book.period book.base stands.0 e.moment e.what stands.1

-- ---- keys

-- an element that passes is listed by its place
listed : {X : Type 0} (test : X → Bool) (s : ℕ) (xs : List X) (k : ℕ) (x : X) → slice_get xs k ≡ Some x → test x ≡ true
    → (i : ℕ) × (slice_get (places_from (λ _ y. test y) s xs) i ≡ Some (s + k))
listed test s [] k x at passes = absurd cc
listed test s (y ∷ ys) zero x at passes = here (test y) refl
  where
    here : (b : Bool) → test y ≡ b → (i : ℕ) × (slice_get (cond b (s ∷ places_from (λ _ z. test z) (s + 1) ys) (places_from (λ _ z. test z) (s + 1) ys)) i ≡ Some (s + 0))
    here true is = (0, ap Some (omega arith))
    here false is = let same : y ≡ x = cc in let fails : test x ≡ false = ap test (sym same) ∙ is in absurd cc
listed test s (y ∷ ys) (suc k) x at passes =
    let found = listed test (s + 1) ys k x at passes in behind (test y) (found.0, found.1 ∙ ap Some (omega arith))
  where
    behind : (b : Bool) → (i : ℕ) × (slice_get (places_from (λ _ z. test z) (s + 1) ys) i ≡ Some (s + suc k))
        → (i : ℕ) × (slice_get (cond b (s ∷ places_from (λ _ z. test z) (s + 1) ys) (places_from (λ _ z. test z) (s + 1) ys)) i ≡ Some (s + suc k))
    behind true found = (suc found.0, found.1)
    behind false found = found

-- where a key of a peer is kept, a credit of the peer is listed
kept_listed : (j : Entries) (p n : ℕ) (key : List ℕ) → kept_at j p key ≡ Some n → (i : ℕ) × (c : Credited) × (slice_get (credit_numbers j) i ≡ Some n) × (credit_at j n ≡ Some c) × (c.peer ≡ p)
kept_listed j p n key is =
    let found = first_found (λ _ (e : Entry). has_key p key e.what) 0 n j is in
    let at : slice_get j n ≡ Some found.1 = subst (λ k. slice_get j k ≡ Some found.1) (omega (arith, found.2)) found.3 in
    of found.1 at found.4
  where
    both : (a b : Bool) → (a && b) ≡ true → a ≡ true
    both true b is = refl
    both false b is = cc

    of : (e : Entry) → slice_get j n ≡ Some e → has_key p key e.what ≡ true
        → (i : ℕ) × (c : Credited) × (slice_get (credit_numbers j) i ≡ Some n) × (credit_at j n ≡ Some c) × (c.peer ≡ p)
    of e at passes = credit (as_credit e.what) refl passes
      where
        credit : (o : Option Credited) → as_credit e.what ≡ o → unwrap_or (option_map (λ (c : Credited). (c.peer == p) && bytes_eq c.key key) o) false ≡ true
            → (i : ℕ) × (c : Credited) × (slice_get (credit_numbers j) i ≡ Some n) × (credit_at j n ≡ Some c) × (c.peer ≡ p)
        credit None is passes = absurd cc
        credit (Some c) is passes =
            let place = listed (λ (d : Entry). is_some (as_credit d.what)) 0 j n e at (ap is_some is) in
            (place.0, c, place.1 ∙ ap Some (omega arith), ap (option_and_then (λ (d : Entry). as_credit d.what)) at ∙ is, eqb-true c.peer p (both (c.peer == p) (bytes_eq c.key key) passes))

module _ (book : PlainBook) (next : Configuration) where
  -- the peer of a credit has the same asset in the next configuration, if it has a place there
  abbrev pub HasSameAsset : Credited → Type 0
  HasSameAsset c = (q : ℕ) → place_in_next book.config next c.peer ≡ Some q → peer_asset book.config c.peer ≡ peer_asset next q

  -- as far as credits were looked at
  abbrev pub AreSameAssets : ℕ → Type 0
  AreSameAssets count = (i : ℕ) → i < count → IfSome (credit_at book.entries (get_or (credit_numbers book.entries) i 0)) HasSameAsset

  -- where all were, no key is kept of a peer whose asset differs
  pub no_other_keys : (count : ℕ) → length (credit_numbers book.entries) ≤ count → AreSameAssets count → (p : ℕ) → KeepsNoOtherKeys book next p
  no_other_keys count all same p q there differ key = of (kept_at book.entries p key) refl
    where
      of : (o : Option ℕ) → kept_at book.entries p key ≡ o → IsNone o
      of None is = refl
      of (Some n) is =
          let found = kept_listed book.entries p n key is in
          let number : get_or (credit_numbers book.entries) found.0 0 ≡ n = get_or_from_slice_get (credit_numbers book.entries) found.0 n 0 found.2 in
          let its : IfSome (credit_at book.entries n) HasSameAsset
          = subst (λ k. IfSome (credit_at book.entries k) HasSameAsset) number (same found.0 (omega (arith, slice_get_within (credit_numbers book.entries) found.0 n found.2, all))) in
          let one : HasSameAsset found.1 = subst (λ (o : Option Credited). IfSome o HasSameAsset) found.3 its in
          absurd (differ (subst (λ r. peer_asset book.config r ≡ peer_asset next q) found.4 (one q (subst (λ r. place_in_next book.config next r ≡ Some q) (sym found.4) there))))

-- a credit's key is kept, so its peer is not unused
pub is_used : (book : PlainBook) (n : ℕ) (c : Credited) → credit_at book.entries n ≡ Some c → ¬ (IsUnused book.entries c.peer)
is_used book n c is unused = of (kept_at book.entries c.peer c.key) refl (unused.keys c.key)
  where
    passes : (e : Entry) → as_credit e.what ≡ Some c → has_key c.peer c.key e.what ≡ true
    passes e is =
        ap (λ (o : Option Credited). unwrap_or (option_map (λ (d : Credited). (d.peer == c.peer) && bytes_eq d.key c.key) o) false) is
        ∙ ap₂ ◌&&◌ (eq-eqb c.peer c.peer refl) ((bytes_eq-Decides c.key c.key).1 refl)

    of : (o : Option ℕ) → kept_at book.entries c.peer c.key ≡ o → IsNone o → ⊥
    of (Some m) at none = cc
    of None at none = found (slice_get book.entries n) refl is
      where
        found : (o : Option Entry) → slice_get book.entries n ≡ o → option_and_then (λ (e : Entry). as_credit e.what) o ≡ Some c → ⊥
        found None stands is = cc
        found (Some e) stands is =
            let fails : has_key c.peer c.key e.what ≡ false = none_passes (λ (d : Entry). has_key c.peer c.key d.what) 0 book.entries at n e stands in
            let yes : has_key c.peer c.key e.what ≡ true = passes e is in cc
