-- Which hold is open in a journal whose deadline comes first.
use Rattle.std.specs.Prelude.{◌≡◌, ℕ, ◌+◌, ◌≤◌, ◌<ℤ◌, ◌⊎◌, int_lt, Bool, [], ◌∷◌, Option, Some, None, option_map, if◌then◌else◌}
use Rattle.ilp_journal.specs.declared.entry.What.{What}
use Rattle.ilp_journal.specs.declared.entry.Hold.{Hold}
use Rattle.ilp_journal.specs.Journal.{Entries, as_hold, is_unanswered, open_hold_at}

-- The hold n is open, and of all open holds its deadline comes first; of several of that deadline it has the least number.
pub record IsEarliest (j : Entries) (n : ℕ) (h : Hold) : Type 0 where
  pub is_open : open_hold_at j n ≡ Some h
  pub first : (k : ℕ) (g : Hold) → open_hold_at j k ≡ Some g → (h.deadline <ℤ g.deadline) ⊎ ((h.deadline ≡ g.deadline) × (n ≤ k))

-- the earlier of two holds with their numbers
abbrev pub earlier : Option (ℕ × Hold) → Option (ℕ × Hold) → Option (ℕ × Hold)
earlier None b = b
earlier (Some a) None = Some a
earlier (Some a) (Some b) = if int_lt b.1.deadline a.1.deadline then Some b else Some a

-- the hold that an entry opens, with its number
abbrev pub numbered_hold : ℕ → What → Option (ℕ × Hold)
numbered_hold n w = option_map (λ (h : Hold). (n, h)) (as_hold w)

-- the earliest of the holds whose number passes the test, where the first entry has the number n
abbrev pub earliest_from : (ℕ → Bool) → ℕ → Entries → Option (ℕ × Hold)
earliest_from test n [] = None
earliest_from test n (e ∷ es) = earlier (if test n then numbered_hold n e.what else None) (earliest_from test (n + 1) es)

abbrev pub earliest : Entries → Option (ℕ × Hold)
earliest j = earliest_from (is_unanswered j) 0 j
