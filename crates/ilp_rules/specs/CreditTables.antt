-- What is kept of the credits of a journal, so that no call goes over the entries.
use Rattle.std.specs.Prelude.{◌≡◌, ℕ, is_some, List, [], ◌∷◌, ◌++◌, Some, if◌then◌else◌}
use Rattle.ilp_order.specs.Places.{places_from}
use Rattle.ilp_settlement.specs.KeyTable.{PlainKeyTable, entry_of, Keeps}
use Rattle.ilp_journal.specs.declared.entry.Entry.{Entry}
use Rattle.ilp_journal.specs.declared.entry.What.{What}
use Rattle.ilp_journal.specs.Journal.{Entries}
use Rattle.ilp_journal.specs.Credits.{as_credit, has_key, kept_at}

-- what a clause sees of a table of credits: the number under each key, and all numbers in order
pub record PlainCredits : Type 0 where
  pub keys : PlainKeyTable
  pub numbers : List ℕ

-- the table of no credit
abbrev pub no_credits : PlainCredits
no_credits = record { keys = []; numbers = [] }

-- the credit of this number is kept under this key of this peer, and comes last
pub record KeepsCredit (old new : PlainCredits) (peer : ℕ) (key : List ℕ) (number : ℕ) : Type 0 where
  pub under : Keeps old.keys new.keys peer key number
  pub listed : new.numbers ≡ old.numbers ++ number ∷ []

-- the numbers of the credits of a journal, in order
abbrev pub credit_numbers : Entries → List ℕ
credit_numbers j = places_from (λ _ (e : Entry). is_some (as_credit e.what)) 0 j

-- each credit, and nothing else, is kept under its peer and key, and all are listed
pub record AreKept (j : Entries) (credits : PlainCredits) : Type 0 where
  pub under : (peer : ℕ) (key : List ℕ) → entry_of credits.keys peer key ≡ kept_at j peer key
  pub listed : credits.numbers ≡ credit_numbers j

-- a credit that the entry n books or brings forward is kept under that number, as the last, and the others are as they were
pub record KeepsKey (old new : PlainCredits) (n : ℕ) (w : What) : Type 0 where
  pub under : (peer : ℕ) (key : List ℕ) → entry_of new.keys peer key ≡ (if has_key peer key w then Some n else entry_of old.keys peer key)
  pub listed : new.numbers ≡ old.numbers ++ (if is_some (as_credit w) then n ∷ [] else [])
