-- Messages between settlement engines (RFC 0038): Prepares of amount 0 to `peer.settle`. None of them touches the book,
-- nor asks a keeper.
use Rattle.std.specs.Prelude.{◌≡◌, ℕ, ◌<◌, ◌≤◌, ℤ, ◌⊎◌, List, [], length, Option, Some, None, IsSome, Result, Ok, Err}
use Rattle.ilp_packet.specs.Packet.{PlainPrepare, prepare, most_payload, Spells}
use Rattle.ilp_accounts.specs.Configuration.{Configuration}
use Rattle.ilp_replies.specs.declared.rejects.LocalReject.{LocalReject}
use Rattle.ilp_replies.specs.declared.rejects.LocalReject.TheVariants as local
use Rattle.ilp_replies.specs.declared.rejects.ToldReject.{ToldReject}
use Rattle.ilp_replies.specs.declared.messages.MessageFault.{MessageFault}
use Rattle.ilp_replies.specs.declared.messages.MessageFault.TheVariants as message_fault
use Rattle.ilp_link_traits.specs.Links.{Tells, Sending, sending, ToEngine, messaging, messaged}
use Rattle.ilp_replies.specs.Messages.{message_prepare, message_refusal, engine_answer, answer_packet, reject_in, message_expiry, peer_answer_of}
use Rattle.ilp_workers.specs.Worker.{PlainWorker}

-- the engine is handed nothing, and this is why
abbrev pub IsKeptBack : LocalReject → Option (List ToEngine) → Option (List ToEngine) → Result (List ℕ) LocalReject → Type 0
IsKeptBack why told told' answer = (answer ≡ Err why) × (told' ≡ told)

-- the engine is handed the data of the packet for the peer, and its answer counts
pub record IsHandedOver (from : ℕ) (packet : PlainPrepare) (told told' : Option (List ToEngine)) (answer : Result (List ℕ) LocalReject) : Type 0 where
  pub came : Option (List ℕ)
  pub handed : Tells told (messaged (messaging from packet.payload came)) told'
  pub counts : answer ≡ engine_answer came

-- A refusal keeps the message back, and so may want of memory where there is none.
abbrev pub IsEngineAnswer : Option LocalReject → ℕ → PlainPrepare → Option (List ToEngine) → Option (List ToEngine) → Result (List ℕ) LocalReject → Type 0
IsEngineAnswer (Some why) from packet told told' answer = IsKeptBack why told told' answer
IsEngineAnswer None from packet told told' answer = IsKeptBack local.InternalError told told' answer ⊎ IsHandedOver from packet told told' answer

-- A Prepare for the engine here is answered by one moment of the clock. Nothing is booked, and no peer is handed anything.
pub record IsMessaged (C : Configuration) (from : ℕ) (packet : PlainPrepare) (before after : PlainWorker) (rejected : Option ToldReject) : Type 0 where
  pub now : ℤ
  pub asked : Tells before.moments now after.moments
  pub answer : Result (List ℕ) LocalReject
  pub answered : IsEngineAnswer (message_refusal C from now packet) from packet before.engine after.engine answer
  pub reply : Spells after.reply (answer_packet C answer)
  pub named : rejected ≡ reject_in answer
  pub share : after.share ≡ before.share
  pub records : after.records ≡ before.records
  pub sent : after.sent ≡ before.sent
  pub seen : after.seen ≡ before.seen
  pub kept : after.kept ≡ before.kept

-- ---- a message of the engine here for a peer's engine

-- The peer is handed one packet with the message, and this came back for it.
pub record IsPassedOn (C : Configuration) (peer : ℕ) (octets : List ℕ) (now : ℤ) (sent sent' : Option (List Sending)) (came : Option (List ℕ)) : Type 0 where
  pub packet : List ℕ
  pub spelled : Spells packet (prepare (message_prepare (message_expiry C now) octets))
  pub handed : Tells sent (sending peer packet (message_expiry C now) came) sent'

-- By what the call answers: after an Ok, the worker's reply is the Fulfill that came; else it has none.
abbrev pub IsMessageOver : Configuration → ℕ → List ℕ → ℤ → PlainWorker → PlainWorker → Result (Unit {0}) MessageFault → Type 0
IsMessageOver C peer octets now before after (Ok x) =
    IsPassedOn C peer octets now before.sent after.sent (Some after.reply) × IsSome (peer_answer_of (Some after.reply))
IsMessageOver C peer octets now before after (Err message_fault.NoAnswer) =
    (came : Option (List ℕ)) × IsPassedOn C peer octets now before.sent after.sent came × (peer_answer_of came ≡ None) × (after.reply ≡ [])
IsMessageOver C peer octets now before after (Err message_fault.Memory) = (after.sent ≡ before.sent) × (after.reply ≡ [])
IsMessageOver C peer octets now before after (Err message_fault.TooLong) = ⊥

-- A message that a packet carries is tried at one moment of the clock. Nothing is booked, and no engine here is handed anything.
pub record IsTried (C : Configuration) (peer : ℕ) (octets : List ℕ) (before after : PlainWorker) (result : Result (Unit {0}) MessageFault) : Type 0 where
  pub within : length octets ≤ most_payload
  pub now : ℤ
  pub asked : Tells before.moments now after.moments
  pub over : IsMessageOver C peer octets now before after result
  pub share : after.share ≡ before.share
  pub records : after.records ≡ before.records
  pub engine : after.engine ≡ before.engine
  pub seen : after.seen ≡ before.seen
  pub kept : after.kept ≡ before.kept

-- A message that is too long leaves all as it was.
abbrev pub Messages : Configuration → ℕ → List ℕ → PlainWorker → PlainWorker → Result (Unit {0}) MessageFault → Type 0
Messages C peer octets before after (Err message_fault.TooLong) = (most_payload < length octets) × (after ≡ before)
Messages C peer octets before after result = IsTried C peer octets before after result
