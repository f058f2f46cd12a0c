-- Octets that a peer sent, and what a worker makes of them.
use Rattle.std.specs.Prelude.{◌≡◌, ℕ, ◌⊎◌, List, None, Result, Ok, Err, ⊤}
use Rattle.ilp_packet.specs.Packet.{PlainPacket, PlainPrepare, prepare, fulfill, reject, Spells}
use Rattle.ilp_packet.specs.Reading.{reading}
use Rattle.ilp_desk.specs.Desk.{PlainDesk}
use Rattle.ilp_workers.specs.declared.arrivals.BadPacket.{BadPacket}
use Rattle.ilp_workers.specs.declared.arrivals.BadPacket.TheVariants.{Unread, NotPrepare}
use Rattle.ilp_replies.specs.declared.answer.Receipt.{Receipt}
use Rattle.ilp_workers.specs.Worker.{PlainWorker}
use Rattle.ilp_workers.specs.Forwarding.{Order, order, IsForwardedBy}
use Rattle.ilp_replies.specs.Messages.{IsForEngine}
use Rattle.ilp_workers.specs.Messaging.{IsMessaged}

-- ---- what comes

-- octets that a peer of a desk sent
pub record Arrival : Type 0 where
  pub desk : PlainDesk
  pub from : ℕ
  pub octets : List ℕ

abbrev pub arrival : PlainDesk → ℕ → List ℕ → Arrival
arrival desk from octets = record { desk = desk; from = from; octets = octets }

abbrev pub IsNoPrepare : PlainPacket → Type 0
IsNoPrepare (prepare p) = ⊥
IsNoPrepare (fulfill f) = ⊤
IsNoPrepare (reject r) = ⊤

-- No packet stands for the octets, and this is their first fault; or one does that is no Prepare.
abbrev pub IsBad : List ℕ → BadPacket → Type 0
IsBad octets (Unread fault) = reading octets ≡ Err fault
IsBad octets NotPrepare = (packet : PlainPacket) × Spells octets packet × IsNoPrepare packet

-- The octets stand for no Prepare for the engine here.
abbrev pub IsForPeers : Arrival → Type 0
IsForPeers a = (packet : PlainPrepare) → Spells a.octets (prepare packet) → ¬ IsForEngine packet

-- ---- what becomes of it

-- A receipt of nothing booked.
abbrev pub IsEmpty : Receipt → Type 0
IsEmpty receipt = (receipt.hold ≡ None) × (receipt.answer ≡ None)

-- A Prepare to `peer.settle` is for the engine here. Every other is forwarded.
abbrev pub IsPassed : Order → PlainWorker → PlainWorker → Receipt → Type 0
IsPassed o before after receipt =
    ((¬ IsForEngine o.packet) × IsForwardedBy o before after receipt.hold receipt.answer receipt.rejected)
    ⊎ (IsForEngine o.packet × IsMessaged o.desk.config o.from o.packet before after receipt.rejected × IsEmpty receipt)

-- Octets that are no Prepare leave all as it was.
abbrev pub Forwards : Arrival → PlainWorker → PlainWorker → Result Receipt BadPacket → Type 0
Forwards a before after (Err fault) = IsBad a.octets fault × (after ≡ before)
Forwards a before after (Ok receipt) =
    (packet : PlainPrepare) × Spells a.octets (prepare packet) × IsPassed (order a.desk a.from packet) before after receipt
