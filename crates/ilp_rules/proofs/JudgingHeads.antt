-- What is brought forward, judged: what may come next in a head, and what may not.
use Rattle.std.proofs.Common.{◌≡◌, ◌≢◌, ◌⊎◌, ℕ, ◌<◌, ℤ, pos, List, Option, Some, None, refl, length, inl, inr}
use Rattle.std.specs.Prelude.{IsSome, IsNone, IsTrue}
use Rattle.std.specs.List.{list_all}
use Rattle.ilp_journal.specs.Keys.{IsKey}
use Rattle.ilp_journal.specs.declared.entry.What.TheVariants as what
use Rattle.ilp_journal.specs.Journal.{open_asks}
use Rattle.ilp_journal.specs.Balance.{balance}
use Rattle.ilp_journal.specs.BroughtForward.{opening_at}
use Rattle.ilp_rules.specs.Book.{PlainBook}
use Rattle.ilp_rules.specs.Broken.{OpensWrong}
use Rattle.ilp_rules.specs.Configured.{IsKnown}
use Rattle.ilp_rules.specs.Heads.{IsHead, IsOfPeriodFrom, StandsInHead, is_key_octet, pending_at, most_open_asks}
use Rattle.ilp_rules.specs.Lawful.{IsLawful}
use Rattle.ilp_rules.proofs.HeadLemmas.{told_by_opening, IsToldBy}

module _ (book : PlainBook) (lawful : IsLawful book) where
  -- ---- balances

  abbrev OpensNothing : ℕ → ℤ → Type 0
  OpensNothing p b = (b ≡ pos 0) ⊎ (balance book.entries p ≢ pos 0)

  -- where something is owed in a head, it was opened
  pub was_opened : (p : ℕ) → IsHead book.entries → balance book.entries p ≢ pos 0 → IsSome (opening_at book.entries p)
  was_opened p head some = of (opening_at book.entries p) (told_by_opening book p book.entries lawful.rules head)
    where
      of : (o : Option ℕ) → IsToldBy book.entries p o → IsSome o
      of None told = absurd (some told)
      of (Some n) told = refl

  -- and where nothing is, nothing was
  pub not_opened : (p : ℕ) → IsHead book.entries → balance book.entries p ≡ pos 0 → IsNone (opening_at book.entries p)
  not_opened p head zero = of (opening_at book.entries p) (told_by_opening book p book.entries lawful.rules head)
    where
      of : (o : Option ℕ) → IsToldBy book.entries p o → IsNone o
      of None told = refl
      of (Some n) told = absurd (told zero)

  both : (o : Option ℕ) → IsSome o → IsNone o → ⊥
  both None some none = cc
  both (Some n) some none = cc

  -- what may come next is opened where nothing is owed yet
  pub opens : (p : ℕ) (b : ℤ) → IsKnown book.config p → length book.entries < book.base → (0 < book.period) × IsHead book.entries → b ≢ pos 0 → balance book.entries p ≡ pos 0
      → StandsInHead book.config book.period book.base book.entries (what.Opened p b)
  opens p b known begun head some zero =
      record { later = head.0; front = head.1; begun = begun; rule = (known, some, not_opened p head.1 zero); keys = tt }

  -- 0 isn't, nor what was opened before
  pub opens_not : (p : ℕ) (b : ℤ) → OpensNothing p b → StandsInHead book.config book.period book.base book.entries (what.Opened p b) → ⊥
  opens_not p b (inl zero) stands = stands.rule.1 zero
  opens_not p b (inr some) stands = both (opening_at book.entries p) (was_opened p stands.front some) stands.rule.2

  -- which breaks the rule of openings
  pub opens_wrong : (p : ℕ) (b : ℤ) → IsHead book.entries → OpensNothing p b → OpensWrong book.entries (what.Opened p b)
  opens_wrong p b head (inl zero) = inl zero
  opens_wrong p b head (inr some) = inr (was_opened p head some)

  -- ---- settlements

  -- one that is still open may come next where few are, under a key that can go out and that no other one has
  pub waits : (p a : ℕ) (key : List ℕ) → IsKnown book.config p → length book.entries < book.base → (0 < book.period) × IsHead book.entries → open_asks book.entries p < most_open_asks
      → IsKey key → IsTrue (list_all is_key_octet key) → ¬ (IsSome (pending_at book.entries key)) → ¬ (IsOfPeriodFrom book.config book.period key) → StandsInHead book.config book.period book.base book.entries (what.Pending p a key)
  waits p a key known begun head few named visible single earlier = record {
    later = head.0;
    front = head.1;
    begun = begun;
    rule = (known, few);
    keys = record { named = named; visible = visible; single = none (pending_at book.entries key) single; earlier = earlier };
  }
    where
      none : (o : Option ℕ) → ¬ (IsSome o) → IsNone o
      none None not_some = refl
      none (Some n) not_some = absurd (not_some refl)
