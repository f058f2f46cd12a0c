-- Whether the text of one period follows that of the one before, by the names, the assets and the run that each had. Lines count as
-- entries do: the first behind the first line of a text is that of the entry 0.
use Rattle.std.specs.Prelude.{◌≡◌, ◌≢◌, ℕ, ◌+◌, ◌-◌, ◌<◌, ◌^◌, ℤ, pos, ◌+ℤ◌, ◌<ℤ◌, ◌≤ℤ◌, List, [], ◌∷◌, ◌++◌, length, take, drop, codes, bytes_eq, Bool, true, false, not, ◌||◌, ◌&&◌, ◌==◌, Option, Some, None, slice_get, map, option_and_then, option_map, unwrap_or, if◌then◌else◌, IsTrue, IfSome, ⊤}
use Rattle.std.specs.List.{list_any, slice_split}
use Rattle.ilp_accounts.specs.Configuration.{Configuration}
use Rattle.ilp_journal.specs.declared.entry.Entry.{Entry}
use Rattle.ilp_journal.specs.declared.entry.What.{What}
use Rattle.ilp_journal.specs.declared.entry.What.TheVariants as what
use Rattle.ilp_journal.specs.declared.entry.Ask.{Ask}
use Rattle.ilp_journal.specs.declared.entry.Credited.{Credited}
use Rattle.ilp_journal.specs.Journal.{Entries, is_unclosed, open_hold_at, open_ask_at}
use Rattle.ilp_journal.specs.Credits.{credit_at}
use Rattle.ilp_journal.specs.Balance.{balance}
use Rattle.ilp_journal.specs.BroughtForward.{earlier_balance, head_entry, known_credit, opening_of, pending_settlement}
use Rattle.ilp_journal.specs.Made.{filter_map_from}
use Rattle.ilp_journal_text.specs.Text.{first_line, entry_line}
use Rattle.ilp_journal_text.specs.Reading.{IsTextOf, LacksFirstLine}
use Rattle.ilp_journal_text.specs.declared.reading.TextFault.{TextFault}
use Rattle.ilp_journal_text.specs.declared.reading.TextFault.TheVariants as text_fault
use Rattle.ilp_rules.specs.Book.{PlainBook, moment_at}
use Rattle.ilp_rules.specs.Configured.{IsKnown}
use Rattle.ilp_rules.specs.SettlementKeys.{settlement_key_at}
use Rattle.ilp_next_period.specs.NextPeriod.{peer_asset, period_end, place_in_next, places_by_name, next_head, IsSettled, KeepsNoOtherKeys, IsWhyNotClosed}
use Rattle.ilp_follows.specs.declared.fault.FollowFault.{FollowFault}
use Rattle.ilp_follows.specs.declared.fault.FollowFault.TheVariants as fault

-- ---- what a period may hand on

-- What a peer has can be told, and it is settled where it is left out or its asset differs.
pub record MayTell (book : PlainBook) (next : Configuration) (p : ℕ) : Type 0 where
  pub told : balance book.entries p <ℤ pos (2 ^ 63)
  pub removed : place_in_next book.config next p ≡ None → IsSettled book.entries p
  pub low : (q : ℕ) → place_in_next book.config next p ≡ Some q → pos 0 ≤ℤ (balance book.entries p +ℤ pos (2 ^ 63))
  pub asset : (q : ℕ) → place_in_next book.config next p ≡ Some q → peer_asset book.config p ≢ peer_asset next q → IsSettled book.entries p

-- As far as names, assets and the run say, a period of the next configuration may follow.
pub record MayHandOn (book : PlainBook) (next : Configuration) : Type 0 where
  pub run : next.settings.run ≡ book.config.settings.run
  pub numbered : book.period + 1 < 2 ^ 32
  pub closed : (n : ℕ) → open_hold_at book.entries n ≡ None
  pub peers : (p : ℕ) → IsKnown book.config p → MayTell book next p
  pub keys : (p : ℕ) → IsKnown book.config p → KeepsNoOtherKeys book next p

-- ---- as it is made and judged. No public clause cites these words.

-- an entry of the head
abbrev pub booked_in_head : PlainBook → What → Entry
booked_in_head book w = head_entry (moment_at book.entries (pos 0)) w

-- what of the head opens the balances of so many peers
abbrev pub openings_of : PlainBook → Configuration → ℕ → Entries
openings_of book next n =
    map (booked_in_head book) (filter_map_from (λ q old. opening_of q (earlier_balance book.entries old)) 0 (take n (places_by_name book.config next)))

-- what of the head keeps the credits among so many entries
abbrev pub credits_of : PlainBook → Configuration → ℕ → Entries
credits_of book next n =
    map (booked_in_head book) (filter_map_from (λ _ (e : Entry). known_credit (places_by_name book.config next) e.what) 0 (take n book.entries))

-- what a settlement of a number is in the head, if it is open
abbrev pub settlement_from : PlainBook → Configuration → ℕ → Entry → Option What
settlement_from book next n e = if is_unclosed book.entries n then pending_settlement (period_end book next (pos 0)) n e.what else None

-- what of the head are the settlements among so many entries
abbrev pub settlements_of : PlainBook → Configuration → ℕ → Entries
settlements_of book next n = map (booked_in_head book) (filter_map_from (settlement_from book next) 0 (take n book.entries))

-- the same of the one of a number, as it is looked up
abbrev pub settlement_on : PlainBook → Configuration → ℕ → Option What
settlement_on book next n =
    option_and_then (λ (a : Ask). option_map (λ q. what.Pending q a.amount (settlement_key_at book.config book.period book.entries n)) (place_in_next book.config next a.peer))
    (open_ask_at book.entries n)

-- the settlement of a number is open, and to the peer
abbrev pub is_unpaid_at : Entries → ℕ → ℕ → Bool
is_unpaid_at j p n = unwrap_or (option_map (λ (a : Ask). a.peer == p) (open_ask_at j n)) false

-- The peer of the credit of a number has the same asset in the next configuration, if it has a place there.
abbrev pub KeepsAsset : PlainBook → Configuration → ℕ → Type 0
KeepsAsset book next n =
    IfSome (credit_at book.entries n) (λ (c : Credited). (q : ℕ) → place_in_next book.config next c.peer ≡ Some q → peer_asset book.config c.peer ≡ peer_asset next q)

-- ---- how a text begins

abbrev pub is_line_end : ℕ → Bool
is_line_end octet = octet == 10

-- the lines of a text behind its first, without their ends
abbrev pub lines_behind : List ℕ → List (List ℕ)
lines_behind text = drop 1 (slice_split is_line_end text)

-- a line without its end
abbrev pub without_end : List ℕ → List ℕ
without_end line = take (length line - 1) line

-- a line is that of the entry
abbrev pub is_line_of : Configuration → Entry → List ℕ → Bool
is_line_of C e line = bytes_eq (without_end (entry_line C e)) line

-- whether an entry opens a balance
abbrev pub is_opening : Entry → Bool
is_opening e = of e.what
  where
    of : What → Bool
    of (what.Opened peer balance) = true
    of _ = false

-- a line opens a balance of a head
abbrev pub is_opened : Configuration → Entries → List ℕ → Bool
is_opened C head line = list_any (λ (e : Entry). is_opening e && is_line_of C e line) head

-- A line stands where the head has the entry: a balance is opened at any place that opens one.
abbrev pub stands_for : Configuration → Entries → Entry → List ℕ → Bool
stands_for C head e line = if is_opening e then is_opened C head line else is_line_of C e line

-- an entry is told among so many lines
abbrev pub is_told : Configuration → Entry → List (List ℕ) → Bool
is_told C e lines = list_any (is_line_of C e) lines

abbrev pub is_space : ℕ → Bool
is_space octet = octet == 32

-- the word of what is brought forward
abbrev pub is_head_word : List ℕ → Bool
is_head_word word = bytes_eq word (codes "opened") || (bytes_eq word (codes "known") || bytes_eq word (codes "pending"))

-- the third field of a line, which says what happened
abbrev pub word_of : List ℕ → Option (List ℕ)
word_of line = slice_get (slice_split is_space line) 2

-- a line is one of what is brought forward
abbrev pub is_head_line : List ℕ → Bool
is_head_line line = unwrap_or (option_map is_head_word (word_of line)) false

-- the line of a number, and an empty one past the end
abbrev pub line_at : List (List ℕ) → ℕ → List ℕ
line_at lines n = unwrap_or (slice_get lines n) []

-- whether an entry of a head stands where the lines have its number, and a balance among those that stand for the head
abbrev pub is_brought : Configuration → Entries → List (List ℕ) → ℕ → Entry → Bool
is_brought C head lines n e = stands_for C head e (line_at lines n) && (not (is_opening e) || is_told C e (take (length head) lines))

-- the same of the entry of a number, if there is one
abbrev pub stands_at : Configuration → Entries → List (List ℕ) → ℕ → Bool
stands_at C head lines n = unwrap_or (option_map (is_brought C head lines n) (slice_get head n)) true

-- The lines begin with those of a head. They open each balance, in any order; all else stands in its place. Behind it nothing is brought
-- forward.
pub record BeginWith (C : Configuration) (head : Entries) (lines : List (List ℕ)) : Type 0 where
  pub each : (n : ℕ) → n < length head → IsTrue (stands_at C head lines n)
  pub over : is_head_line (line_at lines (length head)) ≡ false

-- the text of the period is the first line of that, and more
pub record IsOfPeriod (period : ℕ) (text : List ℕ) : Type 0 where
  pub after : List ℕ
  pub whole : text ≡ first_line period ++ after

-- ---- whether it follows

-- a period that has ended, as a book that was begun with nothing
abbrev pub ended_book : Configuration → ℕ → Entries → PlainBook
ended_book C period j = record { config = C; period = period; base = 0; entries = j }

-- the text before is one of a period whose books may be brought forward to these peers, and the next text begins with what comes of them
pub record IsFollowedBy (C : Configuration) (text : List ℕ) (next : Configuration) (next_text : List ℕ) (number : ℕ) : Type 0 where
  pub period : ℕ
  pub entries : Entries
  pub ended : IsTextOf C period entries text
  pub may : MayHandOn (ended_book C period entries) next
  pub later : number ≡ period + 1
  pub begun : IsOfPeriod number next_text
  pub begins : BeginWith next (next_head (ended_book C period entries) next (pos 0)) (lines_behind next_text)

-- why it doesn't
pub record IsWhyNotHandedOn (C : Configuration) (text : List ℕ) (next : Configuration) (Wants : PlainBook → Type 0) : Type 0 where
  pub period : ℕ
  pub entries : Entries
  pub ended : IsTextOf C period entries text
  pub wants : Wants (ended_book C period entries)

-- the next text is of another period than this, or of none
abbrev pub IsOfOther : ℕ → List ℕ → Option ℕ → Type 0
IsOfOther number text None = LacksFirstLine text
IsOfOther number text (Some other) = IsOfPeriod other text × (other ≢ number)

-- it does not begin with what comes of a book
abbrev pub BeginsOtherwise : Configuration → List ℕ → PlainBook → Type 0
BeginsOtherwise next next_text book = ¬ (BeginWith next (next_head book next (pos 0)) (lines_behind next_text))

abbrev pub IsWhyNotFollowed : Configuration → List ℕ → Configuration → List ℕ → FollowFault → Type 0
IsWhyNotFollowed C text next next_text (fault.BadLine line) = ⊤
IsWhyNotFollowed C text next next_text (fault.NamesNothing entry) = ⊤
IsWhyNotFollowed C text next next_text (fault.Closing why) = IsWhyNotHandedOn C text next (λ book. IsWhyNotClosed book next (pos 0) why)
IsWhyNotFollowed C text next next_text (fault.OtherPeriod found) = IsWhyNotHandedOn C text next (λ book. IsOfOther (book.period + 1) next_text found)
IsWhyNotFollowed C text next next_text (fault.Differs entry) = IsWhyNotHandedOn C text next (BeginsOtherwise next next_text)
IsWhyNotFollowed C text next next_text fault.Memory = ⊤

-- a fault is one of the text that is read
abbrev pub IsOfReading : FollowFault → Type 0
IsOfReading (fault.BadLine line) = ⊤
IsOfReading (fault.NamesNothing entry) = ⊤
IsOfReading fault.Memory = ⊤
IsOfReading _ = ⊥

-- the fault of a text that is not read
abbrev pub reading_fault : TextFault → FollowFault
reading_fault (text_fault.BadLine line) = fault.BadLine line
reading_fault text_fault.Memory = fault.Memory
