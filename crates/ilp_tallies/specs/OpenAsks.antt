-- The open settlements to each peer, by their numbers.
use Rattle.std.specs.Prelude.{◌≡◌, ℕ, ◌<◌, Bool, not, ◌&&◌, ◌==◌, ⊤, List, [], ◌∷◌, ◌++◌, length, filter, Option, Some, None, slice_index_or, slice_set}
use Rattle.ilp_order.specs.Places.{places_from}
use Rattle.ilp_journal.specs.declared.entry.Entry.{Entry}
use Rattle.ilp_journal.specs.declared.entry.What.{What}
use Rattle.ilp_journal.specs.declared.entry.What.TheVariants as what
use Rattle.ilp_journal.specs.declared.entry.Ask.{Ask}
use Rattle.ilp_journal.specs.Journal.{Entries, ask_at, is_ask_of, is_unclosed, open_asks}
use Rattle.ilp_tallies.specs.declared.open_asks.TheConstants.{MOST_OPEN}

-- whether the entry n asks for a settlement to the peer, and is not closed
abbrev pub is_open_ask_of : ℕ → Entries → ℕ → Entry → Bool
is_open_ask_of peer j n e = is_ask_of peer e.what && is_unclosed j n

-- the numbers of the open settlements to a peer, from the least on
abbrev pub open_numbers : Entries → ℕ → List ℕ
open_numbers j peer = places_from (is_open_ask_of peer j) 0 j

-- fewer than the most are open to the peer to whom an entry opens a settlement
abbrev pub HasRoomToAsk : Entries → What → Type 0
HasRoomToAsk j (what.Asked a) = open_asks j a.peer < MOST_OPEN
HasRoomToAsk j (what.Pending peer amount key) = open_asks j peer < MOST_OPEN
HasRoomToAsk j _ = ⊤

-- ---- a row of numbers for each peer

-- the numbers of a peer; none past the last row
abbrev pub asks_row : List (List ℕ) → ℕ → List ℕ
asks_row rows peer = slice_index_or rows peer []

-- each row has the numbers of the open settlements to its peer
abbrev pub AreOpenAsks : Entries → List (List ℕ) → Type 0
AreOpenAsks j rows = (p : ℕ) → asks_row rows p ≡ open_numbers j p

-- the rows with one more number, of a peer
abbrev pub with_ask : List (List ℕ) → ℕ → ℕ → List (List ℕ)
with_ask rows peer n = slice_set rows peer (asks_row rows peer ++ n ∷ [])

-- the rows without the number of a settlement
abbrev pub without_ask : ℕ → List (List ℕ) → Ask → List (List ℕ)
without_ask n rows a = slice_set rows a.peer (filter (λ k. not (k == n)) (asks_row rows a.peer))

-- the rows without a number, if it is that of a settlement
abbrev pub without_named : List (List ℕ) → ℕ → Option Ask → List (List ℕ)
without_named rows n None = rows
without_named rows n (Some a) = without_ask n rows a

-- the rows after an entry that comes next in the journal
abbrev pub asks_after : List (List ℕ) → Entries → What → List (List ℕ)
asks_after rows j (what.Hold h) = rows
asks_after rows j (what.Fulfilled hold preimage) = rows
asks_after rows j (what.Released hold cause) = rows
asks_after rows j (what.Credited c) = rows
asks_after rows j (what.Asked a) = with_ask rows a.peer (length j)
asks_after rows j (what.Confirmed ask) = without_named rows ask (ask_at j ask)
asks_after rows j (what.Undone ask) = without_named rows ask (ask_at j ask)
asks_after rows j (what.Opened peer balance) = rows
asks_after rows j (what.Known c) = rows
asks_after rows j (what.Pending peer amount key) = with_ask rows peer (length j)
