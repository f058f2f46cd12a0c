-- A book as the definitions see it, who calls it and when, and what a call makes of it.
use Rattle.std.specs.Prelude.{◌≡◌, ℕ, ◌+◌, ℤ, pos, Bool, ◌++◌, ◌∷◌, [], length, nat_le, Option, Some, None}
use Rattle.std.specs.Int.{int_min, int_max}
use Rattle.ilp_terms.specs.Expiry.{last_of_all}
use Rattle.ilp_accounts.specs.Configuration.{Configuration}
use Rattle.ilp_journal.specs.declared.entry.Entry.{Entry}
use Rattle.ilp_journal.specs.declared.entry.What.{What}
use Rattle.ilp_journal.specs.Journal.{Entries, last_moment, open_count}

-- a book, apart from where it lies in memory; period is the number of the run of its journal from an opening to a closing of the
-- books, and base the number of entries that it began with
pub record PlainBook : Type 0 where
  pub config : Configuration
  pub period : ℕ
  pub base : ℕ
  pub entries : Entries

-- a book of this configuration, in which nothing was booked: of the first period
abbrev pub new_book : Configuration → PlainBook
new_book C = record { config = C; period = 0; base = 0; entries = [] }

-- the book with these entries in place of its own
abbrev pub with_entries : PlainBook → Entries → PlainBook
with_entries book entries = record { config = book.config; period = book.period; base = book.base; entries = entries }

-- the book with another base
abbrev pub with_base : PlainBook → ℕ → PlainBook
with_base book base = record { config = book.config; period = book.period; base = base; entries = book.entries }

-- the book with one more entry
abbrev pub pushed : PlainBook → Entry → PlainBook
pushed book e = with_entries book (book.entries ++ e ∷ [])

-- the book with more entries
abbrev pub extended : PlainBook → Entries → PlainBook
extended book more = with_entries book (book.entries ++ more)

-- whether n more entries fit, beside those that end what is open
abbrev pub has_room : PlainBook → ℕ → Bool
has_room book n = nat_le (length book.entries + open_count book.entries + n) book.config.settings.journal

-- ---- calls

-- who calls, and at what time
pub record By : Type 0 where
  pub actor : ℕ
  pub now : ℤ

abbrev pub by : ℕ → ℤ → By
by actor now = record { actor = actor; now = now }

-- whether the memory that a call needs is there
pub data Growth : Type 0 where
  granted : Growth
  denied : Growth

-- the moment that a call has at the time now: of the years 1970 to 9999, and never before the last entry's
abbrev pub moment_at : Entries → ℤ → ℤ
moment_at j now = int_max (int_max (pos 0) (int_min now last_of_all)) (last_moment j)

-- the entry by which a call books what happened
abbrev pub entry_by : PlainBook → By → What → Entry
entry_by book caller what = record { moment = moment_at book.entries caller.now; actor = caller.actor; what = what }

-- what a call makes: a reply, and at most one entry
pub record Made (R : Type 0) : Type 0 where
  pub reply : R
  pub entry : Option Entry

-- a reply that books nothing
abbrev pub says : {R : Type 0} → R → Made R
says reply = record { reply = reply; entry = None }

-- a reply to what is booked
abbrev pub books : {R : Type 0} → PlainBook → By → R → What → Made R
books book caller reply what = record { reply = reply; entry = Some (entry_by book caller what) }

-- what was made, with another reply for its own
abbrev pub replied_as : {R S : Type 0} → (R → S) → Made R → Made S
replied_as told made = record { reply = told made.reply; entry = made.entry }

-- a journal with the entry that a call makes, if it makes one
abbrev pub appended : Entries → Option Entry → Entries
appended j None = j
appended j (Some e) = j ++ e ∷ []

-- the book with the entry that a call makes, if it makes one
abbrev pub with_entry : PlainBook → Option Entry → PlainBook
with_entry book entry = with_entries book (appended book.entries entry)

-- a call does what was made: it answers the reply, and its entry is all that comes to the book
pub record Does {R : Type 0} (old new : PlainBook) (result : R) (made : Made R) : Type 0 where
  pub reply : result ≡ made.reply
  pub book : new ≡ with_entry old made.entry
