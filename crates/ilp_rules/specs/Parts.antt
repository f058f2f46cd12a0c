-- Of what a book in memory consists.
use Rattle.std.specs.Prelude.{◌≡◌, ℕ, ◌≤◌, None}
use Rattle.std.specs.FinMap as fin_map
use Rattle.ilp_accounts.specs.Configuration.{Configuration}
use Rattle.ilp_accounts.specs.Valid.{IsValid}
use Rattle.ilp_holds.specs.Table.{Table}
use Rattle.ilp_journal.specs.Booked.{Booked}
use Rattle.ilp_journal.specs.Journal.{open_count}
use Rattle.ilp_tallies.specs.Tallies.{PlainTallies, AreTallies}
use Rattle.ilp_rules.specs.Book.{PlainBook}
use Rattle.ilp_rules.specs.Configured.{peer_assets}
use Rattle.ilp_rules.specs.Judging.{behind_all}
use Rattle.ilp_rules.specs.Lawful.{IsLawful}
use Rattle.ilp_rules.specs.CreditTables.{PlainCredits, AreKept}
use Rattle.ilp_rules.specs.Tables.{AreTables}

-- the book that these parts make
abbrev pub book_of : Configuration → ℕ → ℕ → Booked → PlainBook
book_of C period base journal = record { config = C; period = period; base = base; entries = journal.entries }

-- The configuration is valid; the journal is lawful and its limit is the configured one; the tables are those of the journal; and
-- there is room in memory for whatever ends what is open.
pub record AreParts (C : Configuration) (period base : ℕ) (journal : Booked) (tallies : PlainTallies) (holds : Table) (keys : PlainCredits) : Type 0 where
  pub valid : IsValid C
  pub lawful : IsLawful (book_of C period base journal)
  pub limited : journal.limit ≡ C.settings.journal
  pub tabled : AreTables (peer_assets C) base journal.entries tallies holds keys
  pub room : open_count journal.entries ≤ journal.spare

-- The same while entries are taken up, all of which lie below the base. The table of holds has none, though some may be open: these
-- end before a book is made of the parts.
pub record AreCarried (C : Configuration) (period : ℕ) (journal : Booked) (tallies : PlainTallies) (holds : Table) (keys : PlainCredits) : Type 0 where
  pub valid : IsValid C
  pub lawful : IsLawful (book_of C period behind_all journal)
  pub limited : journal.limit ≡ C.settings.journal
  pub tallied : AreTallies (peer_assets C) behind_all journal.entries tallies
  pub kept : AreKept journal.entries keys
  pub none : (n : ℕ) → fin_map.get holds.map n ≡ None
  pub room : open_count journal.entries ≤ journal.spare
