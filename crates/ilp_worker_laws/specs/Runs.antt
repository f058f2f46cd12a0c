-- What a worker does while packets wait: one half after another, of any packets, in any order.
use Rattle.std.specs.Prelude.{◌≡◌, ℕ, List, [], ◌∷◌, Option, Result, Ok, Err, sum_by}
use Rattle.ilp_oer.specs.Octets.{AreOctets}
use Rattle.ilp_packet.specs.declared.fault.PacketFault.{PacketFault}
use Rattle.ilp_packet.specs.Packet.{PlainPacket, prepare, fulfill, reject}
use Rattle.ilp_packet.specs.Reading.{reading}
use Rattle.ilp_desk.specs.Desk.{PlainDesk}
use Rattle.ilp_keeping.specs.declared.keeper.NotKept.{NotKept}
use Rattle.ilp_replies.specs.declared.answer.Receipt.{Receipt}
use Rattle.ilp_workers.specs.Worker.{PlainWorker}
use Rattle.ilp_workers.specs.Forwarding.{Order, IsRefused}
use Rattle.ilp_workers.specs.Pending.{PlainPending}
use Rattle.ilp_workers.specs.Booked.{PlainBooked}
use Rattle.ilp_workers.specs.Halves.{IsBegun, IsBooked, IsHandedOn, IsFinished}

-- One step: a Prepare is refused, one begins to wait, what waits is finished with what came or is booked with it, or all that is booked
-- is kept.
pub data Half : Type 0 where
  refused : Order → Receipt → Half
  begun : Order → PlainPending → Half
  finished : PlainPending → Option (List ℕ) → Receipt → List ℕ → Half
  booked : PlainPending → Option (List ℕ) → PlainBooked → Half
  kept : Result (Unit {0}) NotKept → Half

-- It is done to the worker. An answer consists of octets, as all that lies in memory does.
abbrev pub IsHalf : PlainDesk → Half → PlainWorker → PlainWorker → Type 0
IsHalf desk (refused o receipt) before after = IsRefused o before after receipt.rejected
IsHalf desk (begun o p) before after = IsBegun o before after p
IsHalf desk (finished p came receipt octets) before after = IsFinished desk p came before after receipt octets × AreOctets octets
IsHalf desk (booked p came b) before after = IsBooked desk p came before after b × AreOctets b.octets
IsHalf desk (kept said) before after = IsHandedOn said before after

-- a step, and the worker after it
pub record Step : Type 0 where
  pub half : Half
  pub after : PlainWorker

-- steps that were done one after another
abbrev pub IsRun : PlainDesk → List Step → PlainWorker → PlainWorker → Type 0
IsRun desk [] before after = after ≡ before
IsRun desk (step ∷ steps) before after = IsHalf desk step.half before step.after × IsRun desk steps step.after after

-- how many Fulfills an answer is
abbrev pub fulfills_in : Result PlainPacket PacketFault → ℕ
fulfills_in (Ok (prepare p)) = 0
fulfills_in (Ok (fulfill f)) = 1
fulfills_in (Ok (reject r)) = 0
fulfills_in (Err fault) = 0

-- how many a sender is to be told by a step, after which the worker's reply is this
abbrev pub fulfills_of : Half → List ℕ → ℕ
fulfills_of (refused o receipt) reply = fulfills_in (reading reply)
fulfills_of (begun o p) reply = 0
fulfills_of (finished p came receipt octets) reply = fulfills_in (reading octets)
fulfills_of (booked p came b) reply = fulfills_in (reading b.octets)
fulfills_of (kept said) reply = 0

-- how many Fulfills are to be told
abbrev pub fulfills_told : List Step → ℕ
fulfills_told steps = sum_by (λ (step : Step). fulfills_of step.half step.after.reply) steps
