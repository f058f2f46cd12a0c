-- Worked rows of who may begin, who begins next and who is closed.
use Rattle.std.specs.Prelude.{◌≡◌, ℕ, List, [], ◌∷◌}
use Rattle.ilp_flow.specs.declared.passage.Passage.{Passage}
use Rattle.ilp_flow.specs.declared.waiter.Waiter.TheVariants.{Lingers, Partial, Whole}
use Rattle.ilp_flow.specs.Flow.{part_of, room_of, MayBegin, last_turn, IsNext, MayNoneBegin}
use Rattle.ilp_flow.specs.Closing.{IsClosedNext}

-- one of 500 octets
abbrev pub from_to : ℕ → ℕ → Passage
from_to sender receiver = record { sender = sender; receiver = receiver; octets = 500 }

-- one of so many octets
abbrev pub of_octets : ℕ → ℕ → ℕ → Passage
of_octets octets sender receiver = record { sender = sender; receiver = receiver; octets = octets }

-- Four may be in flight, two of one sender and two to one receiver: two of the sender 0 are, to the receivers 5 and 6.
abbrev pub two_flying : List Passage
two_flying = from_to 0 5 ∷ from_to 0 6 ∷ []

-- who began before: the senders 1, 0 and 0
abbrev pub three_begun : List Passage
three_begun = from_to 1 5 ∷ from_to 0 5 ∷ from_to 0 6 ∷ []

-- The sender 0 has as many as it may, and waits. Of the others the sender 2 never had a turn.
abbrev pub four_waiting : List Passage
four_waiting = from_to 0 7 ∷ from_to 1 5 ∷ from_to 2 5 ∷ from_to 2 7 ∷ []

-- Where four may be in flight there is room for 131,072 octets, and for 65,536 of one sender: the sender 0 has 60,000.
abbrev pub large_flying : List Passage
large_flying = of_octets 60000 0 5 ∷ []

-- 130,000 of them are used up.
abbrev pub full_of_octets : List Passage
full_of_octets = of_octets 65000 0 5 ∷ of_octets 65000 1 6 ∷ []

pub record FlowRows : Type 0 where
  pub part_of_one : part_of 1 ≡ 1
  pub part_of_five : part_of 5 ≡ 2
  pub room_of_one : room_of 1 ≡ 131072
  pub room_of_twenty : room_of 20 ≡ 163840
  pub another_sender : MayBegin 4 two_flying (from_to 1 5)
  pub same_sender : ¬ MayBegin 4 two_flying (from_to 0 7)
  pub same_receiver : ¬ MayBegin 4 (from_to 0 5 ∷ from_to 1 5 ∷ []) (from_to 2 5)
  pub none_in_all : ¬ MayBegin 2 two_flying (from_to 1 7)
  pub octets_fit : MayBegin 4 large_flying (of_octets 5536 0 6)
  pub octets_of_sender : ¬ MayBegin 4 large_flying (of_octets 5537 0 6)
  pub octets_of_another : MayBegin 4 large_flying (of_octets 65536 1 6)
  pub octets_in_all : ¬ MayBegin 4 full_of_octets (of_octets 1073 2 7)
  pub never_began : last_turn 2 three_begun ≡ 0
  pub began_last : last_turn 0 three_begun ≡ 3
  pub next : IsNext 4 two_flying three_begun four_waiting 2
  pub none_next : MayNoneBegin 4 two_flying (from_to 0 7 ∷ from_to 0 8 ∷ [])

pub record ClosingRows : Type 0 where
  pub lingering : IsClosedNext (Partial ∷ Whole 1 ∷ Lingers ∷ Lingers ∷ []) 2
  pub partial : IsClosedNext (Whole 1 ∷ Partial ∷ Whole 2 ∷ Partial ∷ []) 1
  pub of_most : IsClosedNext (Whole 1 ∷ Whole 2 ∷ Whole 1 ∷ Whole 2 ∷ Whole 2 ∷ Whole 3 ∷ []) 4
  pub newest_of_all : IsClosedNext (Whole 1 ∷ Whole 2 ∷ []) 1
