-- What the next entry of a journal is judged by. No public clause cites these words.
use Rattle.std.specs.Prelude.{ℕ, ◌+◌, ◌≤◌, pos, ◌+ℤ◌, ◌≤ℤ◌, length, [], ⊤}
use Rattle.ilp_accounts.specs.Configuration.{Configuration, peer_at}
use Rattle.ilp_journal.specs.declared.entry.What.{What}
use Rattle.ilp_journal.specs.declared.entry.What.TheVariants as what
use Rattle.ilp_journal.specs.Journal.{open_count}
use Rattle.ilp_journal.specs.Balance.{balance}
use Rattle.ilp_journal.specs.Credits.{lowering}
use Rattle.ilp_rules.specs.Book.{PlainBook}

-- the greatest base: whatever is in a journal lies below it
abbrev pub behind_all : ℕ
behind_all = 4294967295

-- a book of a period without entries, that began with whatever comes to it
abbrev pub carrying : Configuration → ℕ → PlainBook
carrying C period = record { config = C; period = period; base = behind_all; entries = [] }

-- n more entries fit, beside those that end what is open
abbrev pub HasRoom : PlainBook → ℕ → Type 0
HasRoom book n = length book.entries + open_count book.entries + n ≤ book.config.settings.journal

-- there is room for an entry, and for what ends it; and a hold leaves its sender's balance at its least or above it, as a correction
-- and what is brought forward leave their peer's
abbrev pub KeepsLimits : PlainBook → What → Type 0
KeepsLimits book (what.Hold h) = HasRoom book 2 × (((peer_at book.config h.from).least +ℤ pos h.amount) ≤ℤ balance book.entries h.from)
KeepsLimits book (what.Credited c) = HasRoom book 1 × (((peer_at book.config c.peer).least +ℤ pos (lowering c.kind c.credited)) ≤ℤ balance book.entries c.peer)
KeepsLimits book (what.Asked a) = HasRoom book 2
KeepsLimits book (what.Opened peer b) = HasRoom book 1 × ((peer_at book.config peer).least ≤ℤ (balance book.entries peer +ℤ b))
KeepsLimits book (what.Known c) = HasRoom book 1
KeepsLimits book (what.Pending peer amount key) = HasRoom book 2
KeepsLimits book _ = ⊤
