-- Keys under which settlements are brought forward, sought entry by entry.
use Rattle.std.proofs.Common.{◌≡◌, ℕ, ◌+◌, ◌<◌, Bool, true, false, cond, List, length, drop, Option, Some, None, refl, sym, ap, ◌∙◌, subst}
use Rattle.std.specs.Prelude.{IsTrue, IsSome, ◌↔◌, slice_get, option_and_then, option_map, unwrap_or}
use Rattle.std.specs.Str.{bytes_eq}
use Rattle.std.proofs.Math.Seq.{drop-length}
use Rattle.std.proofs.lemmas.Bool.{false≢true}
use Rattle.ilp_order.specs.Places.{first_from, passes_at}
use Rattle.ilp_order.proofs.Sums.{first_from_step}
use Rattle.ilp_journal.specs.declared.entry.Entry.{Entry}
use Rattle.ilp_journal.specs.Journal.{Entries}
use Rattle.ilp_journal.specs.BroughtForward.{earlier_key, earlier_key_at}
use Rattle.ilp_rules.specs.Heads.{has_earlier_key, pending_at}

module _ (j : Entries) (key : List ℕ) where
  -- an entry has the key where the key that it brings is this one
  pub passes_by_key : (n : ℕ) → passes_at (λ (e : Entry). has_earlier_key key e.what) j n ≡ unwrap_or (option_map (λ (other : List ℕ). bytes_eq other key) (earlier_key_at j n)) false
  passes_by_key n = of (slice_get j n)
    where
      of : (o : Option Entry) → unwrap_or (option_map (λ (e : Entry). has_earlier_key key e.what) o) false
          ≡ unwrap_or (option_map (λ (other : List ℕ). bytes_eq other key) (option_and_then (λ (e : Entry). earlier_key e.what) o)) false
      of None = refl
      of (Some e) = refl

  -- none before the number n has it
  abbrev pub IsSoughtFrom : ℕ → Type 0
  IsSoughtFrom n = pending_at j key ≡ first_from (λ _ (e : Entry). has_earlier_key key e.what) n (drop n j)

  goes_by : (n : ℕ) (told : Bool) → n < length j → told ≡ passes_at (λ (e : Entry). has_earlier_key key e.what) j n → IsSoughtFrom n
      → pending_at j key ≡ cond told (Some n) (first_from (λ _ (e : Entry). has_earlier_key key e.what) (n + 1) (drop (n + 1) j))
  goes_by n told below is sought =
      sought ∙ first_from_step (λ _ (e : Entry). has_earlier_key key e.what) n j below
      ∙ ap (λ b. cond b (Some n) (first_from (λ _ (e : Entry). has_earlier_key key e.what) (n + 1) (drop (n + 1) j))) (sym is)

  pub sought_on : (n : ℕ) (told : Bool) → n < length j → told ≡ passes_at (λ (e : Entry). has_earlier_key key e.what) j n → told ≡ false → IsSoughtFrom n → IsSoughtFrom (n + 1)
  sought_on n told below is not_it sought =
      goes_by n told below is sought ∙ ap (λ b. cond b (Some n) (first_from (λ _ (e : Entry). has_earlier_key key e.what) (n + 1) (drop (n + 1) j))) not_it

  pub sought_found : (n : ℕ) (told : Bool) → n < length j → told ≡ passes_at (λ (e : Entry). has_earlier_key key e.what) j n → told ≡ true → IsSoughtFrom n → IsTrue true ↔ IsSome (pending_at j key)
  sought_found n told below is it sought =
      let found : pending_at j key ≡ Some n =
      goes_by n told below is sought ∙ ap (λ b. cond b (Some n) (first_from (λ _ (e : Entry). has_earlier_key key e.what) (n + 1) (drop (n + 1) j))) it in
      (λ _. subst IsSome (sym found) refl, λ _. refl)

  pub sought_none : (n : ℕ) → n ≡ length j → IsSoughtFrom n → IsTrue false ↔ IsSome (pending_at j key)
  sought_none n all sought =
      let none : pending_at j key ≡ None =
      sought ∙ ap (λ (rest : Entries). first_from (λ _ (e : Entry). has_earlier_key key e.what) n rest) (ap (λ k. drop k j) all ∙ drop-length j) in
      (λ no. absurd (false≢true no), λ some. absurd (nothing (subst IsSome none some)))
    where
      nothing : IsSome {T = ℕ} None → ⊥
      nothing some = cc
