-- What a period hands to the next: the balances, the keys of credits, and the settlements that are still open. A period is a
-- journal from its opening to the closing of its books; its head is what was brought forward from the one before.
use Rattle.std.specs.Prelude.{◌≡◌, ◌≢◌, ◌<◌, IsNone, IfSome, ⊤, ℕ, zero, suc, ℤ, pos, negsuc, Bool, true, false, List, ◌++◌, map, Option, Some, None, slice_get, option_and_then, option_map, unwrap_or, if◌then◌else◌, ◌==◌}
use Rattle.std.specs.List.{range_with_len}
use Rattle.ilp_journal.specs.declared.entry.Entry.{Entry}
use Rattle.ilp_journal.specs.declared.entry.What.{What}
use Rattle.ilp_journal.specs.declared.entry.What.TheVariants as what
use Rattle.ilp_journal.specs.declared.entry.Ask.{Ask}
use Rattle.ilp_journal.specs.declared.entry.Credited.{Credited}
use Rattle.ilp_order.specs.Places.{first_from}
use Rattle.ilp_journal.specs.Made.{filter_map_from}
use Rattle.ilp_journal.specs.Journal.{Entries, as_ask, is_number, is_unclosed, open_asks}
use Rattle.ilp_journal.specs.Balance.{balance}
use Rattle.ilp_journal.specs.Credits.{as_credit, kept_at}

-- ---- the peers of two periods

-- Peers may be added, removed and put in another order. For each peer of the next period, by its place there, this is the place
-- that it has in the period that ends, if it has one.
abbrev pub EarlierPlaces : Type 0
EarlierPlaces = List (Option ℕ)

-- the place in the next period of the peer p of the one that ends
abbrev pub next_place : EarlierPlaces → ℕ → Option ℕ
next_place places p = first_from (λ _ (old : Option ℕ). is_number p old) 0 places

-- the place in the period that ends of the peer q of the next
abbrev pub earlier_place : EarlierPlaces → ℕ → Option ℕ
earlier_place places q = option_and_then (λ (old : Option ℕ). old) (slice_get places q)

-- n peers that keep their places
abbrev pub same_places : ℕ → EarlierPlaces
same_places n = map (λ p. Some p) (range_with_len 0 n)

-- ---- how the books are closed

-- when the books are closed, who the peers of the next period are, and under which key the settlement of a number was asked for
pub record PeriodEnd : Type 0 where
  pub moment : ℤ
  pub places : EarlierPlaces
  pub key_of : ℕ → List ℕ

-- an entry of the next period's head
abbrev pub head_entry : ℤ → What → Entry
head_entry moment w = record { moment = moment; actor = 0; what = w }

-- whether an entry is of a kind that stands in heads alone
abbrev pub is_brought_forward : What → Bool
is_brought_forward (what.Opened peer balance) = true
is_brought_forward (what.Known c) = true
is_brought_forward (what.Pending peer amount key) = true
is_brought_forward _ = false

-- ---- balances

-- the balance of a peer, and 0 for one that was not there
abbrev pub earlier_balance : Entries → Option ℕ → ℤ
earlier_balance j None = pos 0
earlier_balance j (Some p) = balance j p

-- the opening of a balance, if it is not 0
abbrev pub opening_of : ℕ → ℤ → Option What
opening_of q (pos zero) = None
opening_of q (pos (suc n)) = Some (what.Opened q (pos (suc n)))
opening_of q (negsuc n) = Some (what.Opened q (negsuc n))

-- the balances that are brought forward, in the order of the next period's peers
abbrev pub balances_brought_forward : EarlierPlaces → Entries → List What
balances_brought_forward places j = filter_map_from (λ q old. opening_of q (earlier_balance j old)) 0 places

-- ---- keys of credits

-- the same credit, of the peer q
abbrev pub credited_to : ℕ → Credited → Credited
credited_to q c = record c { peer = q }

-- the credit that an entry keeps, if its peer has a place in the next period
abbrev pub known_credit : EarlierPlaces → What → Option What
known_credit places w = option_and_then (λ (c : Credited). option_map (λ q. what.Known (credited_to q c)) (next_place places c.peer)) (as_credit w)

-- the credits that are brought forward, in order
abbrev pub credits_brought_forward : EarlierPlaces → Entries → List What
credits_brought_forward places j = filter_map_from (λ _ (e : Entry). known_credit places e.what) 0 j

-- ---- open settlements

-- the key that an open settlement had in an earlier period
abbrev pub earlier_key : What → Option (List ℕ)
earlier_key (what.Pending peer amount key) = Some key
earlier_key _ = None

-- the same, by the number of its entry
abbrev pub earlier_key_at : Entries → ℕ → Option (List ℕ)
earlier_key_at j n = option_and_then (λ (e : Entry). earlier_key e.what) (slice_get j n)

-- the key of the settlement that the entry n opens: the one that it had in an earlier period, or that of its number
abbrev pub settlement_key : (ℕ → List ℕ) → ℕ → What → List ℕ
settlement_key key_of n w = unwrap_or (earlier_key w) (key_of n)

-- the settlement that the entry n opens, if its peer has a place in the next period
abbrev pub pending_settlement : PeriodEnd → ℕ → What → Option What
pending_settlement end n w =
    option_and_then (λ (a : Ask). option_map (λ q. what.Pending q a.amount (settlement_key end.key_of n w)) (next_place end.places a.peer)) (as_ask w)

-- the open settlements that are brought forward, in order
abbrev pub settlements_brought_forward : PeriodEnd → Entries → List What
settlements_brought_forward end j = filter_map_from (λ n (e : Entry). if is_unclosed j n then pending_settlement end n e.what else None) 0 j

-- ---- the head of the next period

unfoldable pub brought_forward : PeriodEnd → Entries → Entries
brought_forward end j = map (head_entry end.moment) (balances_brought_forward end.places j ++ (credits_brought_forward end.places j ++ settlements_brought_forward end j))

-- The peers of the next period keep what they have: none is listed twice, one that has a balance keeps its asset, and one that
-- is left out has none. `assets` has the asset of each peer, and `next` those of the next period's peers.
pub record KeepsPeers (assets next : List ℕ) (places : EarlierPlaces) (j : Entries) : Type 0 where
  pub once : (p q : ℕ) → earlier_place places q ≡ Some p → next_place places p ≡ Some q
  pub kept : (p q : ℕ) → next_place places p ≡ Some q → balance j p ≢ pos 0 → slice_get next q ≡ slice_get assets p
  pub removed : (p : ℕ) → next_place places p ≡ None → balance j p ≡ pos 0

-- ---- what is open to a peer

-- the amount and the key of the settlement that the entry n opens, if it is to the peer p
abbrev pub settlement_to : (ℕ → List ℕ) → ℕ → ℕ → What → Option (ℕ × List ℕ)
settlement_to key_of p n w =
    option_and_then (λ (a : Ask). if a.peer == p then Some (a.amount, settlement_key key_of n w) else None) (as_ask w)

-- the amounts and the keys of the open settlements to the peer p, in order
unfoldable pub open_settlements : (ℕ → List ℕ) → Entries → ℕ → List (ℕ × List ℕ)
open_settlements key_of j p = filter_map_from (λ n (e : Entry). if is_unclosed j n then settlement_to key_of p n e.what else None) 0 j

-- ---- the rules of a head

-- the peer whose balance an entry opens
abbrev pub opened_peer : What → Option ℕ
opened_peer (what.Opened peer balance) = Some peer
opened_peer _ = None

-- the first entry that opens the balance of the peer
abbrev pub opening_at : Entries → ℕ → Option ℕ
opening_at j peer = first_from (λ _ (e : Entry). is_number peer (opened_peer e.what)) 0 j

-- a credit has a key that its peer has not used
abbrev pub HasFreshKey : Entries → Entry → Type 0
HasFreshKey before e = IfSome (as_credit e.what) (λ (c : Credited). IsNone (kept_at before c.peer c.key))

-- What is brought forward is of so many peers. A balance is opened once, and is not 0; a key is known once; and no more than so
-- many settlements to a peer are open.
abbrev pub KeepsHeadRule : ℕ → ℕ → Entries → What → Type 0
KeepsHeadRule count most before (what.Opened peer balance) = (peer < count) × (balance ≢ pos 0) × IsNone (opening_at before peer)
KeepsHeadRule count most before (what.Known c) = (c.peer < count) × IsNone (kept_at before c.peer c.key)
KeepsHeadRule count most before (what.Pending peer amount key) = (peer < count) × (open_asks before peer < most)
KeepsHeadRule count most before _ = ⊤
