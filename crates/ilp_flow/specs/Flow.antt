-- How many packets and messages are in flight at once, and who begins next.
use Rattle.std.specs.Prelude.{◌≡◌, ◌≢◌, ℕ, ◌+◌, ◌-◌, ◌*◌, ◌^◌, ◌<◌, ◌≤◌, ◌==◌, ◌/◌, min, max, List, [], ◌∷◌, length, Option, Some, None, slice_get, count_by, sum_by, if◌then◌else◌}
use Rattle.ilp_flow.specs.declared.passage.Passage.{Passage}

-- ---- limits

-- how many there may be of one sender, or to one receiver, where there may be so many in all: half, and one at least
abbrev pub part_of : ℕ → ℕ
part_of most = max 1 (most / 2)

-- how many are one sender's
abbrev pub sent_by : ℕ → List Passage → ℕ
sent_by sender flying = count_by (λ (p : Passage). p.sender == sender) flying

-- how many go to one receiver
abbrev pub bound_for : ℕ → List Passage → ℕ
bound_for receiver flying = count_by (λ (p : Passage). p.receiver == receiver) flying

-- how many octets there may be in flight, where there may be so many in all: 8,192 of each, and of 16 at least
abbrev pub room_of : ℕ → ℕ
room_of most = max 16 most * 8192

-- how many octets are in flight
abbrev pub octets_in : List Passage → ℕ
octets_in flying = sum_by (λ (p : Passage). p.octets) flying

-- how many of them are one sender's
abbrev pub octets_by : ℕ → List Passage → ℕ
octets_by sender flying = sum_by (λ (p : Passage). if p.sender == sender then p.octets else 0) flying

-- Beside these that are in flight one more may begin. One sender has half of the room for octets at most.
pub record MayBegin (most : ℕ) (flying : List Passage) (p : Passage) : Type 0 where
  pub in_all : length flying < most
  pub of_sender : sent_by p.sender flying < part_of most
  pub of_receiver : bound_for p.receiver flying < part_of most
  pub octets : octets_in flying + p.octets ≤ room_of most
  pub octets_of_sender : octets_by p.sender flying + p.octets ≤ room_of most / 2

-- The limits are kept.
pub record AreWithin (most : ℕ) (flying : List Passage) : Type 0 where
  pub in_all : length flying ≤ most
  pub of_senders : (sender : ℕ) → sent_by sender flying ≤ part_of most
  pub of_receivers : (receiver : ℕ) → bound_for receiver flying ≤ part_of most
  pub octets : octets_in flying ≤ room_of most
  pub octets_of_senders : (sender : ℕ) → octets_by sender flying ≤ room_of most / 2

-- ---- turns

-- the greatest number of a turn: all later ones have it too
abbrev pub LAST_TURN : ℕ
LAST_TURN = 2 ^ 64 - 1

abbrev pub last_turn_from : ℕ → ℕ → ℕ → List Passage → ℕ
last_turn_from sender last n [] = last
last_turn_from sender last n (p ∷ begun) = last_turn_from sender (if p.sender == sender then n else last) (n + 1) begun

-- When a sender began last, of those that began, the first of them in front: 0 where it never did, 1 where it was the first.
abbrev pub last_turn : ℕ → List Passage → ℕ
last_turn sender begun = min (last_turn_from sender 0 1 begun) LAST_TURN

-- Of those that wait, the first to come in front, this one begins next: it may, and of all that may it is of the sender whose last turn
-- was longest ago; of several such it came first.
pub record IsNext (most : ℕ) (flying begun waiting : List Passage) (place : ℕ) : Type 0 where
  pub passage : Passage
  pub stands : slice_get waiting place ≡ Some passage
  pub may : MayBegin most flying passage
  pub longest : (k : ℕ) (other : Passage) → slice_get waiting k ≡ Some other → MayBegin most flying other → last_turn passage.sender begun ≤ last_turn other.sender begun
  pub first : (k : ℕ) (other : Passage) → k < place → slice_get waiting k ≡ Some other → MayBegin most flying other → last_turn passage.sender begun < last_turn other.sender begun

-- None of those that wait may begin.
abbrev pub MayNoneBegin : ℕ → List Passage → List Passage → Type 0
MayNoneBegin most flying waiting = (k : ℕ) (other : Passage) → slice_get waiting k ≡ Some other → ¬ MayBegin most flying other

-- who begins next, if any may
abbrev pub BeginsNext : ℕ → List Passage → List Passage → List Passage → Option ℕ → Type 0
BeginsNext most flying begun waiting (Some place) = IsNext most flying begun waiting place
BeginsNext most flying begun waiting None = MayNoneBegin most flying waiting

-- One of another sender waits that may begin.
pub record MayAnotherBegin (most : ℕ) (flying waiting : List Passage) (sender : ℕ) : Type 0 where
  pub place : ℕ
  pub passage : Passage
  pub stands : slice_get waiting place ≡ Some passage
  pub another : passage.sender ≢ sender
  pub may : MayBegin most flying passage

-- The one that waits there is of another sender.
pub record IsOfAnother (waiting : List Passage) (place sender : ℕ) : Type 0 where
  pub passage : Passage
  pub stands : slice_get waiting place ≡ Some passage
  pub another : passage.sender ≢ sender
