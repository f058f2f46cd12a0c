-- The two halves of a forward: what a worker does before the next peer is asked, and what after. Between the two others may begin and
-- finish. The second is booked, kept and told; one journal that is kept serves all that is booked by then.
use Rattle.std.specs.Prelude.{◌≡◌, ℕ, List, Option, Some, None, length, Result, Ok, Err}
use Rattle.ilp_packet.specs.Packet.{PlainPrepare, prepare, Spells}
use Rattle.ilp_accounts.specs.Configuration.{Configuration}
use Rattle.ilp_book.specs.declared.calls.Held.{Held}
use Rattle.ilp_desk.specs.Desk.{PlainDesk}
use Rattle.ilp_link_traits.specs.Links.{Tells, sending}
use Rattle.ilp_keeping.specs.declared.keeper.NotKept.{NotKept}
use Rattle.ilp_workers.specs.declared.arrivals.BadPacket.{BadPacket}
use Rattle.ilp_replies.specs.declared.answer.Receipt.{Receipt}
use Rattle.ilp_replies.specs.declared.rejects.ToldReject.{ToldReject}
use Rattle.ilp_workers.specs.declared.reply_effect.Told.{Told}
use Rattle.ilp_workers.specs.declared.in_flight.Begun.{Begun}
use Rattle.ilp_workers.specs.declared.in_flight.Begun.TheVariants.{Answered, Waits, Asks}
use Rattle.ilp_workers.specs.Worker.{PlainWorker, Seat, seat_of, IsKept}
use Rattle.ilp_workers.specs.Forwarding.{Order, order, onward, IsHolding, IsRefused, IsEnded, KeepsFirst, IsTold, reject_told, effect_of}
use Rattle.ilp_replies.specs.Messages.{IsForEngine}
use Rattle.ilp_workers.specs.Messaging.{IsMessaged}
use Rattle.ilp_workers.specs.Arrivals.{Arrival, IsBad, IsEmpty, IsPassed}
use Rattle.ilp_workers.specs.Pending.{PlainPending, waiting, held_prepare, told_order}
use Rattle.ilp_replies.specs.EngineMessage.{PlainEngineMessage}
use Rattle.ilp_workers.specs.MessageHalves.{IsAsked}
use Rattle.ilp_workers.specs.Booked.{PlainBooked, behind_of}

-- ---- the first half

-- A hold is booked, and the packet waits, with the octets of the Prepare that goes on. The last answer still stands.
pub record IsBegun (o : Order) (before after : PlainWorker) (p : PlainPending) : Type 0 where
  pub held : Held
  pub octets : List ℕ
  pub waits : p ≡ waiting before.share.actor (held_prepare o held) octets
  pub booked : IsHolding o (seat_of before) (seat_of after) held
  pub spelled : Spells octets (prepare (onward o.packet held))
  pub links : (after.sent ≡ before.sent) × (after.engine ≡ before.engine)
  pub reply_stays : after.reply ≡ before.reply

-- a Prepare for a peer, by what the call answers
abbrev pub IsBegunBy : {J A : Type 0} → Order → PlainWorker → PlainWorker → Begun J A → Type 0
IsBegunBy o before after (Answered receipt) = IsRefused o before after receipt.rejected × IsEmpty receipt
IsBegunBy o before after (Waits p) = IsBegun o before after p
IsBegunBy o before after (Asks m) = ⊥

-- a Prepare for the engine here, by what the call answers
abbrev pub IsAskedBy : {J A : Type 0} → Configuration → ℕ → PlainPrepare → PlainWorker → PlainWorker → Begun J A → Type 0
IsAskedBy C from packet before after (Answered receipt) = IsMessaged C from packet before after receipt.rejected × IsEmpty receipt
IsAskedBy C from packet before after (Waits p) = ⊥
IsAskedBy C from packet before after (Asks m) = IsAsked C from packet before after m

-- The octets stand for a Prepare that is not for the engine here, and this waits.
abbrev pub StartsWaiting : Arrival → PlainWorker → PlainWorker → PlainPending → Type 0
StartsWaiting a before after p =
    (packet : PlainPrepare) × Spells a.octets (prepare packet) × (¬ IsForEngine packet) × IsBegun (order a.desk a.from packet) before after p

-- The octets stand for a Prepare that is for the engine here, which is to be handed this.
abbrev pub StartsAsking : Arrival → PlainWorker → PlainWorker → PlainEngineMessage → Type 0
StartsAsking a before after m =
    (packet : PlainPrepare) × Spells a.octets (prepare packet) × IsForEngine packet × IsAsked a.desk.config a.from packet before after m

-- The octets stand for a Prepare, which is answered as a whole forward would, with nothing booked.
abbrev pub AnswersAtOnce : Arrival → PlainWorker → PlainWorker → Receipt → Type 0
AnswersAtOnce a before after receipt =
    (packet : PlainPrepare) × Spells a.octets (prepare packet) × IsPassed (order a.desk a.from packet) before after receipt × IsEmpty receipt

-- Octets that are no Prepare leave all as it was.
abbrev pub Begins : {J A : Type 0} → Arrival → PlainWorker → PlainWorker → Result (Begun J A) BadPacket → Type 0
Begins a before after (Err fault) = IsBad a.octets fault × (after ≡ before)
Begins a before after (Ok (Answered receipt)) = AnswersAtOnce a before after receipt
Begins a before after (Ok (Waits p)) = StartsWaiting a before after p
Begins a before after (Ok (Asks m)) = StartsAsking a before after m

-- how many packets more wait
abbrev pub waiting_more : {J A : Type 0} → Result (Begun J A) BadPacket → ℕ
waiting_more (Err fault) = 0
waiting_more (Ok (Answered receipt)) = 0
waiting_more (Ok (Waits p)) = 1
waiting_more (Ok (Asks m)) = 0

-- ---- what the next peer is handed

-- The next peer is handed the octets of the packet, and this came back for it. All else stays, but for the last answer.
pub record IsHanded (p : PlainPending) (came : Option (List ℕ)) (before after : PlainWorker) : Type 0 where
  pub handed : Tells before.sent (sending p.prepare.held.to p.octets p.prepare.held.deadline came) after.sent
  pub seat : seat_of after ≡ seat_of before
  pub engine : after.engine ≡ before.engine

-- ---- the second half

-- What came is told to the book for this packet's hold, and the worker's share and records are raised by that alone. This is what
-- the sender is to be answered, and how many entries the keeper is to be handed before. The last answer still stands.
pub record IsBooked (desk : PlainDesk) (p : PlainPending) (came : Option (List ℕ)) (before after : PlainWorker) (b : PlainBooked) : Type 0 where
  pub told : Told
  pub hold : b.receipt.hold ≡ Some p.prepare.held.number
  pub ended : IsEnded (told_order desk p.prepare) p.prepare.held (effect_of p.prepare.condition came) (seat_of before) (seat_of after) told b.receipt.answer
  pub links : (after.sent ≡ before.sent) × (after.engine ≡ before.engine)
  pub reply : IsTold desk.config came told b.octets
  pub named : b.receipt.rejected ≡ reject_told told
  pub behind : b.behind ≡ behind_of b.receipt.rejected (length after.seen)
  pub reply_stays : after.reply ≡ before.reply

-- The keeper is handed the journal that the worker has seen, and says this of it. All else stays.
pub record IsHandedOn (said : Result (Unit {0}) NotKept) (before after : PlainWorker) : Type 0 where
  pub kept : IsKept said (seat_of before) (seat_of after)
  pub links : (after.sent ≡ before.sent) × (after.engine ≡ before.engine)
  pub reply_stays : after.reply ≡ before.reply

-- By what the sender is to be told: before a Fulfill the keeper is handed the journal, before a Reject nothing changes.
abbrev pub IsKeptFor : Option ToldReject → PlainWorker → PlainWorker → Type 0
IsKeptFor None before after = (said : Result (Unit {0}) NotKept) × IsHandedOn said before after
IsKeptFor (Some r) before after = after ≡ before

-- What came is booked, a Fulfill is kept, and then the sender is answered with these octets. The last answer still stands.
pub record IsFinished (desk : PlainDesk) (p : PlainPending) (came : Option (List ℕ)) (before after : PlainWorker) (receipt : Receipt) (octets : List ℕ) : Type 0 where
  pub told : Told
  pub hold : receipt.hold ≡ Some p.prepare.held.number
  pub left : Seat
  pub ended : IsEnded (told_order desk p.prepare) p.prepare.held (effect_of p.prepare.condition came) (seat_of before) left told receipt.answer
  pub kept_first : KeepsFirst told left (seat_of after)
  pub links : (after.sent ≡ before.sent) × (after.engine ≡ before.engine)
  pub reply : IsTold desk.config came told octets
  pub named : receipt.rejected ≡ reject_told told
  pub reply_stays : after.reply ≡ before.reply
