-- What the books of a period hand to the next one, which may have another configuration, and what forbids that. Peers of two
-- configurations are the same by their names, and assets by code and scale.
use Rattle.std.specs.Prelude.{◌≡◌, ◌≢◌, ℕ, ◌+◌, ◌<◌, ◌≤◌, ◌^◌, ℤ, pos, ◌<ℤ◌, ◌≤ℤ◌, List, ◌++◌, length, map, Option, None, Some, is_some, option_and_then, option_map, min, ◌&&◌, if◌then◌else◌, IsNone, IsSome, IsSomeAnd, ⊤}
use Rattle.std.specs.List.{cons_option}
use Rattle.ilp_assets.specs.Assets.{PlainAsset, asset_at, is_asset}
use Rattle.ilp_accounts.specs.Configuration.{Configuration, PlainPeer, peer_at, peer_names, place_named}
use Rattle.ilp_accounts.specs.Valid.{IsValid}
use Rattle.ilp_journal.specs.declared.entry.What.{What}
use Rattle.ilp_journal.specs.declared.entry.What.TheVariants as what
use Rattle.ilp_journal.specs.declared.entry.Ask.{Ask}
use Rattle.ilp_journal.specs.declared.entry.Credited.{Credited}
use Rattle.ilp_order.specs.Places.{first_from, int_sum_from}
use Rattle.ilp_journal.specs.declared.entry.Entry.{Entry}
use Rattle.ilp_journal.specs.Journal.{Entries, as_ask, is_behind, is_unclosed, ask_at, open_asks, open_count, open_hold_at}
use Rattle.ilp_journal.specs.Balance.{balance}
use Rattle.ilp_journal.specs.Credits.{credit_at, kept_at}
use Rattle.ilp_journal.specs.BroughtForward.{EarlierPlaces, PeriodEnd, next_place, earlier_place, head_entry, earlier_balance, opening_of, balances_brought_forward, credited_to, credits_brought_forward, settlements_brought_forward, brought_forward}
use Rattle.ilp_rules.specs.Book.{PlainBook, moment_at, with_entries}
use Rattle.ilp_rules.specs.Carried.{begun_with}
use Rattle.ilp_rules.specs.Configured.{IsKnown, asset_of}
use Rattle.ilp_rules.specs.Heads.{settlement_key_of}
use Rattle.ilp_rules.specs.Judging.{carrying}
use Rattle.ilp_rules.specs.Lawful.{IsLawful}
use Rattle.ilp_rules.specs.SettlementKeys.{settlement_key_at}
use Rattle.ilp_next_period.specs.declared.forward_fault.ForwardFault.{ForwardFault}
use Rattle.ilp_next_period.specs.declared.forward_fault.ForwardFault.TheVariants as fault

-- ---- peers and assets of two configurations

-- for each peer of the next configuration the place that the peer of its name has in this one, if there is one
abbrev pub places_by_name : Configuration → Configuration → EarlierPlaces
places_by_name C next = map (place_named (peer_names C.peers)) (peer_names next.peers)

-- the place in the next configuration of a peer of this one
abbrev pub place_in_next : Configuration → Configuration → ℕ → Option ℕ
place_in_next C next p = next_place (places_by_name C next) p

-- the peer p of this configuration and the peer q of the next one are the same: they have one name
pub record IsNextPeer (C next : Configuration) (p q : ℕ) : Type 0 where
  pub known : IsKnown C p
  pub there : IsKnown next q
  pub named : (peer_at C p).name ≡ (peer_at next q).name

-- no peer of this configuration has the name of the peer q of the next one
pub record IsNewPeer (C next : Configuration) (q : ℕ) : Type 0 where
  pub there : IsKnown next q
  pub named : (p : ℕ) → IsKnown C p → (peer_at C p).name ≢ (peer_at next q).name

-- the asset of a peer, by its code and scale
abbrev pub peer_asset : Configuration → ℕ → PlainAsset
peer_asset C p = asset_at C.table.assets (asset_of C p)

-- the sum of the balances in an asset
abbrev pub asset_balances : Configuration → Entries → PlainAsset → ℤ
asset_balances C j asset = int_sum_from (λ p (peer : PlainPeer). if is_asset asset (asset_at C.table.assets peer.asset) then balance j p else pos 0) 0 C.peers

-- ---- what is handed on

-- The books are closed at the moment of the call. A settlement of the book's own has the key of its period and number.
abbrev pub period_end : PlainBook → Configuration → ℤ → PeriodEnd
period_end book next now = record {
  moment = moment_at book.entries now;
  places = places_by_name book.config next;
  key_of = settlement_key_of book.config book.period;
}

-- the head of the next period's journal
abbrev pub next_head : PlainBook → Configuration → ℤ → Entries
next_head book next now = brought_forward (period_end book next now) book.entries

-- the book of the next period: it begins with the head, and has nothing else
abbrev pub next_book : PlainBook → Configuration → ℤ → PlainBook
next_book book next now = begun_with next (book.period + 1) (next_head book next now)

-- ---- what forbids it

-- nothing is owed to a peer or by it, and no settlement to it is open
pub record IsSettled (j : Entries) (p : ℕ) : Type 0 where
  pub balance : balance j p ≡ pos 0
  pub asks : open_asks j p ≡ 0

-- nor is a key of its credits kept
pub record IsUnused (j : Entries) (p : ℕ) : Type 0 where
  pub settled : IsSettled j p
  pub keys : (key : List ℕ) → IsNone (kept_at j p key)

-- What a peer has can be brought forward, but for its keys: its balance can be told. Where the peer is left out it is settled; else its
-- balance is at least its least there, and it is settled where its asset differs.
pub record MayKeep (book : PlainBook) (next : Configuration) (p : ℕ) : Type 0 where
  pub told : balance book.entries p <ℤ pos (2 ^ 63)
  pub removed : place_in_next book.config next p ≡ None → IsSettled book.entries p
  pub least : (q : ℕ) → place_in_next book.config next p ≡ Some q → (peer_at next q).least ≤ℤ balance book.entries p
  pub asset : (q : ℕ) → place_in_next book.config next p ≡ Some q → peer_asset book.config p ≢ peer_asset next q → IsSettled book.entries p

-- no key is kept of a peer whose asset differs
abbrev pub KeepsNoOtherKeys : PlainBook → Configuration → ℕ → Type 0
KeepsNoOtherKeys book next p =
    (q : ℕ) → place_in_next book.config next p ≡ Some q → peer_asset book.config p ≢ peer_asset next q → (key : List ℕ) → IsNone (kept_at book.entries p key)

-- a period of the next configuration may follow the book
pub record MayFollow (book : PlainBook) (next : Configuration) : Type 0 where
  pub run : next.settings.run ≡ book.config.settings.run
  pub numbered : book.period + 1 < 2 ^ 32
  pub closed : (n : ℕ) → open_hold_at book.entries n ≡ None
  pub peers : (p : ℕ) → IsKnown book.config p → MayKeep book next p
  pub keys : (p : ℕ) → IsKnown book.config p → KeepsNoOtherKeys book next p

-- the next configuration's journal has room for the head, and for what closes the settlements in it
abbrev pub HasRoomForHead : PlainBook → Configuration → ℤ → Type 0
HasRoomForHead book next now = length (next_head book next now) + open_count (next_head book next now) ≤ next.settings.journal

-- a peer of the book, by its place there, with its balance
pub record HasBalance (book : PlainBook) (peer : ℕ) (b : ℤ) : Type 0 where
  pub known : IsKnown book.config peer
  pub balance : b ≡ balance book.entries peer

-- why the books are not closed for a period of the next configuration
abbrev pub IsWhyNotClosed : PlainBook → Configuration → ℤ → ForwardFault → Type 0
IsWhyNotClosed book next now fault.OtherRun = next.settings.run ≢ book.config.settings.run
IsWhyNotClosed book next now fault.LastPeriod = 2 ^ 32 ≤ book.period + 1
IsWhyNotClosed book next now (fault.HoldOpen hold) = IsSome (open_hold_at book.entries hold)
IsWhyNotClosed book next now (fault.BalanceTooLarge peer b) = HasBalance book peer b × (pos (2 ^ 63) ≤ℤ b)
IsWhyNotClosed book next now (fault.PeerRemoved peer b) =
    HasBalance book peer b × (place_in_next book.config next peer ≡ None) × ¬ (IsSettled book.entries peer)
IsWhyNotClosed book next now (fault.OtherAsset peer b) =
    HasBalance book peer b × IsSomeAnd (place_in_next book.config next peer) (λ q. peer_asset book.config peer ≢ peer_asset next q)
    × ¬ (IsUnused book.entries peer)
IsWhyNotClosed book next now (fault.BelowLeast peer b) =
    HasBalance book peer b × IsSomeAnd (place_in_next book.config next peer) (λ q. b <ℤ (peer_at next q).least)
IsWhyNotClosed book next now fault.Full = next.settings.journal < length (next_head book next now) + open_count (next_head book next now)
IsWhyNotClosed book next now fault.Memory = ⊤

-- ---- as it is made. No public clause cites these words.

-- the balance that the peer q of the next configuration brings forward, if it isn't 0
abbrev pub next_opening : PlainBook → Configuration → ℕ → Option What
next_opening book next q = opening_of q (earlier_balance book.entries (earlier_place (places_by_name book.config next) q))

-- the credit of a number that is brought forward
abbrev pub next_credit : PlainBook → Configuration → ℕ → Option What
next_credit book next n =
    option_and_then (λ (c : Credited). option_map (λ q. what.Known (credited_to q c)) (place_in_next book.config next c.peer)) (credit_at book.entries n)

-- the settlement of a number that is brought forward, where it is open
abbrev pub next_settlement : PlainBook → Configuration → ℕ → Option What
next_settlement book next n =
    option_and_then (λ (a : Ask). option_map (λ q. what.Pending q a.amount (settlement_key_at book.config book.period book.entries n)) (place_in_next book.config next a.peer))
    (ask_at book.entries n)

-- what of the head stands behind the credits, and what behind the balances
abbrev pub behind_credits : PlainBook → Configuration → ℤ → List What
behind_credits book next now = settlements_brought_forward (period_end book next now) book.entries

abbrev pub behind_balances : PlainBook → Configuration → ℤ → List What
behind_balances book next now = credits_brought_forward (places_by_name book.config next) book.entries ++ behind_credits book next now

-- all of the head
abbrev pub handed_on : PlainBook → Configuration → ℤ → List What
handed_on book next now = balances_brought_forward (places_by_name book.config next) book.entries ++ behind_balances book next now

-- The next period of a book may begin, and a journal that is begun has come so far in its head: these are left.
pub record HasLeft (book : PlainBook) (next : Configuration) (now : ℤ) (made : PlainBook) (left : List What) : Type 0 where
  pub valid : IsValid book.config
  pub lawful : IsLawful book
  pub later : IsValid next
  pub may : MayFollow book next
  pub begun : made ≡ with_entries (carrying next (book.period + 1)) made.entries
  pub front : IsLawful made
  pub whole : made.entries ++ map (head_entry (moment_at book.entries now)) left ≡ next_head book next now

-- whatever may be left behind what comes next, if something does, the step from old to new leaves it
abbrev pub Leaves : PlainBook → Configuration → ℤ → Option What → PlainBook → PlainBook → Type 0
Leaves book next now first old new = (left : List What) → HasLeft book next now old (cons_option first left) → HasLeft book next now new left

-- something comes next, or nothing
abbrev pub ComesNext : PlainBook → Configuration → ℤ → Option What → PlainBook → Type 0
ComesNext book next now first old = (left : List What) × HasLeft book next now old (cons_option first left)

-- the lesser of two numbers, where there are both
abbrev pub lesser : Option ℕ → Option ℕ → Option ℕ
lesser None other = other
lesser (Some one) None = Some one
lesser (Some one) (Some other) = Some (min one other)

-- the least number of an open settlement behind another number, or of all
abbrev pub next_open : Entries → Option ℕ → Option ℕ
next_open j tried = first_from (λ n (e : Entry). (is_some (as_ask e.what) && is_unclosed j n) && is_behind tried n) 0 j
