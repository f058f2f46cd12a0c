-- Which journals a configuration allows. Each rule is one of an entry and the entries before it.
use Rattle.std.specs.Prelude.{◌≡◌, ◌≢◌, ℕ, ◌+◌, ◌≤◌, ◌<◌, ◌^◌, ℤ, pos, ◌+ℤ◌, ◌-ℤ◌, ◌<ℤ◌, ◌≤ℤ◌, int_le, nat_abs, Option, Some, None, if◌then◌else◌, ◌↔◌, IsTrue, IsNone, IsSome, IsSomeAnd, IsOkAnd, length, []}
use Rattle.std.specs.Int.{int_min}
use Rattle.ilp_assets.specs.declared.quote.Quote.{Quote}
use Rattle.ilp_assets.specs.Quote.{most}
use Rattle.ilp_settlement.specs.declared.quantity.Quantity.{Quantity}
use Rattle.ilp_settlement.specs.Quantity.{credited_at}
use Rattle.ilp_accounts.specs.declared.peer.Levels.{Levels}
use Rattle.ilp_accounts.specs.Configuration.{Configuration, peer_at}
use Rattle.ilp_journal.specs.declared.entry.Entry.{Entry}
use Rattle.ilp_journal.specs.declared.entry.What.{What}
use Rattle.ilp_journal.specs.declared.entry.What.TheVariants as what
use Rattle.ilp_journal.specs.declared.entry.Cause.TheVariants.{Late, Restart}
use Rattle.ilp_journal.specs.declared.entry.Hold.{Hold}
use Rattle.ilp_journal.specs.declared.entry.Ask.{Ask}
use Rattle.ilp_journal.specs.declared.entry.Credited.{Credited}
use Rattle.ilp_order.specs.Places.{Each}
use Rattle.ilp_journal.specs.Keys.{IsKey}
use Rattle.ilp_journal.specs.Journal.{Entries, open_hold_at, open_ask_at, last_moment, open_count, open_asks}
use Rattle.ilp_journal.specs.Balance.{balance}
use Rattle.ilp_journal.specs.TrialBalance.{total_in, total_out}
use Rattle.ilp_terms.specs.Expiry.{last_of_all}
use Rattle.ilp_terms.specs.Condition.{meets}
use Rattle.ilp_rules.specs.Book.{PlainBook, with_entries, pushed}
use Rattle.ilp_rules.specs.Configured.{IsKnown, peer_assets, scale_at, quote_between}
use Rattle.ilp_journal.specs.Credits.{kept_at}
pub use Rattle.ilp_rules.specs.Heads.{most_open_asks}
use Rattle.ilp_rules.specs.Heads.{StandsInHead}

-- ---- holds

-- A hold is between two different peers, of an amount that the sender may send, at the quote's terms, for a time.
pub record HasTerms (C : Configuration) (moment : ℤ) (h : Hold) : Type 0 where
  pub sender : IsKnown C h.from
  pub receiver : IsKnown C h.to
  pub different : h.from ≢ h.to
  pub amount : h.amount ≤ (peer_at C h.from).max_packet
  pub quoted : IsOkAnd (quote_between C h.from h.to h.amount) (λ (q : Quote). (h.fee ≡ q.fee) × (h.out ≡ q.out))
  pub begins : moment <ℤ h.deadline
  pub ends : h.deadline ≤ℤ (moment +ℤ pos C.settings.max_hold_ms)

-- ---- settlements

-- the quantity that a credit named
abbrev pub quantity_named : Credited → Quantity
quantity_named c = record { amount = c.named; scale = c.scale }

-- A credit, or a correction, has a key that its peer has not used, and its quantity at the scale of the peer's balance, rounded down.
pub record IsFreshCredit (C : Configuration) (before : Entries) (c : Credited) : Type 0 where
  pub known : IsKnown C c.peer
  pub named : IsKey c.key
  pub rounded : c.credited ≡ credited_at (quantity_named c) (scale_at C c.peer)
  pub fresh : IsNone (kept_at before c.peer c.key)

-- what a settlement asks for: what lies above the level to settle to, as far as one settlement may go
abbrev pub owed_above : ℤ → Levels → ℤ
owed_above balance l = int_min (balance -ℤ l.settle_to) (pos l.settle_max)

-- what is asked for, where the balance is at the threshold or above it
abbrev pub due_amount : ℤ → Option Levels → Option ℕ
due_amount balance None = None
due_amount balance (Some l) = if int_le l.threshold balance then Some (nat_abs (owed_above balance l)) else None

-- A settlement is asked for from the peer's threshold on, where fewer of its settlements are open than may be.
pub record IsDueAsk (C : Configuration) (before : Entries) (a : Ask) : Type 0 where
  pub known : IsKnown C a.peer
  pub few_open : open_asks before a.peer < most_open_asks
  pub due : IsSomeAnd (peer_at C a.peer).levels (λ (l : Levels).
      (l.threshold ≤ℤ balance before a.peer) × (pos a.amount ≡ owed_above (balance before a.peer) l))

-- ---- entries

-- The rule of an entry, by what it books. A hold ends once, and so does a settlement. A preimage counts where it meets the
-- condition before the deadline. A release is late exactly from the deadline on; for a restart it is among what the book began
-- with, the entries below the base. What is brought forward stands in the head.
abbrev pub KeepsRule : Configuration → ℕ → ℕ → Entries → ℤ → What → Type 0
KeepsRule C period base before moment (what.Hold h) = HasTerms C moment h
KeepsRule C period base before moment (what.Fulfilled hold preimage) =
    IsSomeAnd (open_hold_at before hold) (λ (h : Hold). IsTrue (meets h.condition preimage) × (moment <ℤ h.deadline))
KeepsRule C period base before moment (what.Released hold cause) =
    IsSomeAnd (open_hold_at before hold) (λ (h : Hold). (cause ≡ Late) ↔ (h.deadline ≤ℤ moment)) × (cause ≡ Restart → length before < base)
KeepsRule C period base before moment (what.Credited c) = IsFreshCredit C before c
KeepsRule C period base before moment (what.Asked a) = IsDueAsk C before a
KeepsRule C period base before moment (what.Confirmed ask) = IsSome (open_ask_at before ask)
KeepsRule C period base before moment (what.Undone ask) = IsSome (open_ask_at before ask)
KeepsRule C period base before moment (what.Opened peer balance) = StandsInHead C period base before (what.Opened peer balance)
KeepsRule C period base before moment (what.Known c) = StandsInHead C period base before (what.Known c)
KeepsRule C period base before moment (what.Pending peer amount key) = StandsInHead C period base before (what.Pending peer amount key)

abbrev pub KeepsRuleOf : PlainBook → Entries → Entry → Type 0
KeepsRuleOf book before e = KeepsRule book.config book.period book.base before e.moment e.what

-- ---- moments and limits

-- Moments never fall, and are of the years 1970 to 9999.
pub record IsInTime (before : Entries) (e : Entry) : Type 0 where
  pub later : last_moment before ≤ℤ e.moment
  pub first : pos 0 ≤ℤ e.moment
  pub last : e.moment ≤ℤ last_of_all

-- Each balance is at least its least, there is room for whatever ends what is open, and the amounts of the open and the
-- fulfilled holds since the base keep within what one packet can carry.
pub record IsWithinLimits (book : PlainBook) : Type 0 where
  pub least : (peer : ℕ) → IsKnown book.config peer → (peer_at book.config peer).least ≤ℤ balance book.entries peer
  pub room : length book.entries + open_count book.entries ≤ book.config.settings.journal
  pub totals_in : (asset : ℕ) → total_in (peer_assets book.config) book.base book.entries asset ≤ most
  pub totals_out : (asset : ℕ) → total_out (peer_assets book.config) book.base book.entries asset ≤ most

-- ---- journals

-- A book's period has a number of 32 bits. Each entry keeps its rule and is in time, and the limits are kept at first and after
-- each entry.
pub record IsLawful (book : PlainBook) : Type 0 where
  pub numbered : book.period < 2 ^ 32
  pub rules : Each (KeepsRuleOf book) book.entries
  pub moments : Each IsInTime book.entries
  pub empty : IsWithinLimits (with_entries book [])
  pub limits : Each (λ before e. IsWithinLimits (pushed (with_entries book before) e)) book.entries
