-- The keys of a peer's credits, found by the credits.
use Rattle.std.proofs.Common.{◌≡◌, ℕ, ◌<◌, ◌≤◌, Bool, true, false, ◌&&◌, length, Option, Some, None, refl, sym, ap, ap₂, ◌∙◌, subst, arith, slice_get, option_and_then, option_map, unwrap_or, ◌==◌}
use Rattle.std.specs.Prelude.{◌↔◌, IsNone, IsSomeAnd, IsTrue}
use Rattle.std.specs.Str.{bytes_eq}
use Rattle.std.proofs.lemmas.Bool.{eqb-true, eq-eqb}
use Rattle.std.proofs.lemmas.Option.{slice_get_within}
use Rattle.std.proofs.lemmas.Slice.Eq.{bytes_eq-Decides}
use Rattle.ilp_journal.specs.declared.entry.Entry.{Entry}
use Rattle.ilp_journal.specs.declared.entry.Credited.{Credited}
use Rattle.ilp_journal.specs.Journal.{Entries}
use Rattle.ilp_journal.specs.Credits.{as_credit, credit_at, has_key, kept_at}
use Rattle.ilp_rules.proofs.KeptOnce.{none_passes}
use Rattle.ilp_rules.proofs.Standing.{first_found}
use Rattle.ilp_remembered.specs.Remembered.{KeepsNoKey}

-- the entry of this number keeps the key of a credit of the peer
abbrev pub IsCreditOf : Entries → ℕ → ℕ → Type 0
IsCreditOf j peer n = IsSomeAnd (credit_at j n) (λ (c : Credited). c.peer ≡ peer)

-- none of the first entries does
abbrev pub HasNoCreditOf : Entries → ℕ → ℕ → Type 0
HasNoCreditOf j peer count = (n : ℕ) → n < count → ¬ (IsCreditOf j peer n)

-- where an entry keeps the key of a credit of the peer, a key of it is kept
is_kept : (j : Entries) (peer n : ℕ) → IsCreditOf j peer n → ¬ (KeepsNoKey j peer)
is_kept j peer n its none = of (slice_get j n) refl its
  where
    of : (o : Option Entry) → slice_get j n ≡ o → IsSomeAnd (option_and_then (λ (e : Entry). as_credit e.what) o) (λ (c : Credited). c.peer ≡ peer) → ⊥
    of None at its = absurd its
    of (Some e) at its = credit (as_credit e.what) refl its
      where
        credit : (o : Option Credited) → as_credit e.what ≡ o → IsSomeAnd o (λ (c : Credited). c.peer ≡ peer) → ⊥
        credit None is its = absurd its
        credit (Some c) is its = first (kept_at j peer c.key) refl (none c.key)
          where
            passes : has_key peer c.key e.what ≡ true
            passes =
                ap (λ (o : Option Credited). unwrap_or (option_map (λ (d : Credited). (d.peer == peer) && bytes_eq d.key c.key) o) false) is
                ∙ ap₂ ◌&&◌ (eq-eqb c.peer peer its) ((bytes_eq-Decides c.key c.key).1 refl)

            first : (o : Option ℕ) → kept_at j peer c.key ≡ o → IsNone o → ⊥
            first (Some m) found none = cc
            first None found none =
                let fails : has_key peer c.key e.what ≡ false = none_passes (λ (d : Entry). has_key peer c.key d.what) 0 j found n e at in
                let yes : has_key peer c.key e.what ≡ true = passes in cc

-- where no entry does, none is
is_not_kept : (j : Entries) (peer : ℕ) → HasNoCreditOf j peer (length j) → KeepsNoKey j peer
is_not_kept j peer nowhere key = of (kept_at j peer key) refl
  where
    both : (a b : Bool) → (a && b) ≡ true → a ≡ true
    both true b is = refl
    both false b is = cc

    passing : (e : Entry) → has_key peer key e.what ≡ true → IsSomeAnd (as_credit e.what) (λ (c : Credited). c.peer ≡ peer)
    passing e passes = credit (as_credit e.what) passes
      where
        credit : (o : Option Credited) → unwrap_or (option_map (λ (c : Credited). (c.peer == peer) && bytes_eq c.key key) o) false ≡ true → IsSomeAnd o (λ (c : Credited). c.peer ≡ peer)
        credit None passes = absurd cc
        credit (Some c) passes = eqb-true c.peer peer (both (c.peer == peer) (bytes_eq c.key key) passes)

    of : (o : Option ℕ) → kept_at j peer key ≡ o → IsNone o
    of None is = refl
    of (Some n) is =
        let found = first_found (λ _ (e : Entry). has_key peer key e.what) 0 n j is in
        let at : slice_get j n ≡ Some found.1 = subst (λ k. slice_get j k ≡ Some found.1) (omega (arith, found.2)) found.3 in
        absurd (nowhere n (slice_get_within j n found.1 at) (subst (λ (o : Option Entry). IsSomeAnd (option_and_then (λ (e : Entry). as_credit e.what) o) (λ (c : Credited). c.peer ≡ peer)) (sym at) (passing found.1 found.4)))

-- so it is told where one was found
pub kept : (j : Entries) (peer n : ℕ) (is : Bool) → (IsTrue is ↔ IsCreditOf j peer n) → is ≡ true → (IsTrue true ↔ ¬ (KeepsNoKey j peer))
kept j peer n is tells found = (λ _. is_kept j peer n (tells.0 found), λ _. refl)

-- and where all were looked at
pub not_kept : (j : Entries) (peer count : ℕ) → length j ≤ count → HasNoCreditOf j peer count → (IsTrue false ↔ ¬ (KeepsNoKey j peer))
not_kept j peer count all nowhere = (λ f. absurd cc, λ kept. absurd (kept (is_not_kept j peer (λ n within. nowhere n (omega (arith, within, all))))))
