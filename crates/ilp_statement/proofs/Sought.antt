-- The first entry that is not before a moment, sought from the first one on.
use Rattle.std.proofs.Common.{◌≡◌, ℕ, ◌+◌, ◌<◌, ℤ, Bool, true, false, cond, length, Option, Some, None, refl, sym, ap, ◌∙◌}
use Rattle.std.specs.Prelude.{drop, unwrap_or, int_le}
use Rattle.std.proofs.Math.Seq.{drop-length}
use Rattle.ilp_order.specs.Places.{first_from, passes_at}
use Rattle.ilp_order.proofs.Sums.{first_from_step}
use Rattle.ilp_journal.specs.declared.entry.Entry.{Entry}
use Rattle.ilp_journal.specs.Journal.{Entries}
use Rattle.ilp_statement.specs.Statement.{number_from}

module _ (j : Entries) (moment : ℤ) where
  -- none before the number n is late enough
  abbrev pub IsSoughtFrom : ℕ → Type 0
  IsSoughtFrom n = number_from j moment ≡ unwrap_or (first_from (λ _ (e : Entry). int_le moment e.moment) n (drop n j)) (length j)

  goes_by : (n : ℕ) (told : Bool) → n < length j → told ≡ passes_at (λ (e : Entry). int_le moment e.moment) j n → IsSoughtFrom n
      → number_from j moment ≡ unwrap_or (cond told (Some n) (first_from (λ _ (e : Entry). int_le moment e.moment) (n + 1) (drop (n + 1) j))) (length j)
  goes_by n told below is sought =
      sought ∙ ap (λ o. unwrap_or o (length j)) (first_from_step (λ _ (e : Entry). int_le moment e.moment) n j below)
      ∙ ap (λ b. unwrap_or (cond b (Some n) (first_from (λ _ (e : Entry). int_le moment e.moment) (n + 1) (drop (n + 1) j))) (length j)) (sym is)

  pub sought_on : (n : ℕ) (told : Bool) → n < length j → told ≡ passes_at (λ (e : Entry). int_le moment e.moment) j n → told ≡ false → IsSoughtFrom n → IsSoughtFrom (n + 1)
  sought_on n told below is not_it sought =
      goes_by n told below is sought ∙ ap (λ b. unwrap_or (cond b (Some n) (first_from (λ _ (e : Entry). int_le moment e.moment) (n + 1) (drop (n + 1) j))) (length j)) not_it

  pub sought_found : (n : ℕ) (told : Bool) → n < length j → told ≡ passes_at (λ (e : Entry). int_le moment e.moment) j n → told ≡ true → IsSoughtFrom n → n ≡ number_from j moment
  sought_found n told below is it sought =
      sym (goes_by n told below is sought ∙ ap (λ b. unwrap_or (cond b (Some n) (first_from (λ _ (e : Entry). int_le moment e.moment) (n + 1) (drop (n + 1) j))) (length j)) it)

  pub sought_none : (n : ℕ) → n ≡ length j → IsSoughtFrom n → length j ≡ number_from j moment
  sought_none n all sought =
      sym (sought ∙ ap (λ (rest : Entries). unwrap_or (first_from (λ _ (e : Entry). int_le moment e.moment) n rest) (length j)) (ap (λ k. drop k j) all ∙ drop-length j))
