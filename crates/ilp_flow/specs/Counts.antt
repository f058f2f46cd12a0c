-- What is counted of the packets and messages that are in flight.
use Rattle.std.specs.Prelude.{◌≡◌, ℕ, ◌+◌, ◌-◌, ◌^◌, ◌<◌, ◌≤◌, nat_le, min, List, [], ◌∷◌, ◌++◌, length, Option, Some, None, slice_get, vec_len, if◌then◌else◌}
use Rattle.ilp_flow.specs.declared.passage.Passage.{Passage}
use Rattle.ilp_flow.specs.declared.flow.Flow.{Flow}
use Rattle.ilp_flow.specs.declared.flow.OfSender.{OfSender}
use Rattle.ilp_flow.specs.declared.flow.Turn.{Turn}
use Rattle.ilp_flow.specs.Flow.{part_of, room_of, sent_by, bound_for, octets_in, octets_by, MayBegin, last_turn, LAST_TURN}

-- how many may be in flight at once
abbrev pub limit_of : Flow → ℕ
limit_of f = f.most

-- there are so many senders and as many receivers
abbrev pub IsFor : Flow → ℕ → Type 0
IsFor f parties = (vec_len f.senders ≡ parties) × (vec_len f.receivers ≡ parties)

-- both of them are among these
abbrev pub IsKnownTo : Flow → Passage → Type 0
IsKnownTo f p = (p.sender < vec_len f.senders) × (p.receiver < vec_len f.receivers)

abbrev pub AreKnownTo : Flow → List Passage → Type 0
AreKnownTo f waiting = (k : ℕ) (p : Passage) → slice_get waiting k ≡ Some p → IsKnownTo f p

-- The limits and the parties stay as they are.
pub record KeepsLimits (old new : Flow) : Type 0 where
  pub most : new.most ≡ old.most
  pub senders : vec_len new.senders ≡ vec_len old.senders
  pub receivers : vec_len new.receivers ≡ vec_len old.receivers

-- The numbers of one sender are those of the ones in flight, and its last turn is that among all that began.
pub record IsOf (sender : ℕ) (of : OfSender) (flying begun : List Passage) : Type 0 where
  pub sent : of.flying ≡ sent_by sender flying
  pub octets : of.octets ≡ octets_by sender flying
  pub turn : of.turn ≡ last_turn sender begun

-- The numbers are those of the ones in flight, and of all that began so far, the first to begin in front.
pub record HasCounts (f : Flow) (flying begun : List Passage) : Type 0 where
  pub few : f.most < 2 ^ 32
  pub part : f.part ≡ part_of f.most
  pub room : f.room ≡ room_of f.most
  pub in_all : f.flying ≡ length flying
  pub octets : f.octets ≡ octets_in flying
  pub turns : f.begun ≡ min (length begun) LAST_TURN
  pub of_senders : (k : ℕ) (of : OfSender) → slice_get f.senders.items k ≡ Some of → IsOf k of flying begun
  pub of_receivers : (k count : ℕ) → slice_get f.receivers.items k ≡ Some count → count ≡ bound_for k flying

-- It may begin, and is in flight from now on, the last of all that began.
pub record Begins (old new : Flow) (flying begun : List Passage) (p : Passage) : Type 0 where
  pub may : MayBegin old.most flying p
  pub counts : HasCounts new (p ∷ flying) (begun ++ p ∷ [])

-- One more of so many octets began, in this turn.
abbrev pub with_one : OfSender → ℕ → ℕ → OfSender
with_one of octets turn = record { flying = min (of.flying + 1) (2 ^ 32 - 1); octets = min (of.octets + octets) (2 ^ 64 - 1); turn = turn }

-- One of so many octets ended.
abbrev pub without_one : OfSender → ℕ → OfSender
without_one of octets = record { flying = of.flying - 1; octets = of.octets - octets; turn = of.turn }

-- ---- who begins next, of the first that wait

-- Of the first n that wait this one begins next, and then its sender had its last turn.
pub record IsSoonest (most : ℕ) (flying begun waiting : List Passage) (n place turn : ℕ) : Type 0 where
  pub passage : Passage
  pub within : place < n
  pub stands : slice_get waiting place ≡ Some passage
  pub may : MayBegin most flying passage
  pub turn_is : turn ≡ last_turn passage.sender begun
  pub longest : (k : ℕ) (other : Passage) → k < n → slice_get waiting k ≡ Some other → MayBegin most flying other → turn ≤ last_turn other.sender begun
  pub first : (k : ℕ) (other : Passage) → k < place → slice_get waiting k ≡ Some other → MayBegin most flying other → turn < last_turn other.sender begun

-- of the first n that wait, if any may begin
abbrev pub IsBest : ℕ → List Passage → List Passage → List Passage → ℕ → Option Turn → Type 0
IsBest most flying begun waiting n (Some t) = IsSoonest most flying begun waiting n t.place t.turn
IsBest most flying begun waiting n None = (k : ℕ) (other : Passage) → k < n → slice_get waiting k ≡ Some other → ¬ MayBegin most flying other

-- the one before stays where its sender's last turn was no later
abbrev pub sooner : Option Turn → ℕ → ℕ → Option Turn
sooner None place turn = Some (record { place = place; turn = turn })
sooner (Some t) place turn = if nat_le t.turn turn then Some t else Some (record { place = place; turn = turn })
