-- The two halves of a message between settlement engines (RFC 0038), from a peer and to one. Nothing is booked in either.
use Rattle.std.specs.Prelude.{◌≡◌, ℕ, ◌<◌, ◌≤◌, ℤ, List, length, Option, None, Result, Ok, Err}
use Rattle.ilp_packet.specs.Packet.{PlainPrepare, prepare, most_payload, Spells}
use Rattle.ilp_accounts.specs.Configuration.{Configuration}
use Rattle.ilp_link_traits.specs.Links.{Tells, sending, messaging, messaged}
use Rattle.ilp_replies.specs.declared.rejects.LocalReject.TheVariants as local
use Rattle.ilp_replies.specs.declared.messages.MessageFault.{MessageFault}
use Rattle.ilp_replies.specs.declared.messages.MessageFault.TheVariants as message_fault
use Rattle.ilp_workers.specs.Worker.{PlainWorker}
use Rattle.ilp_replies.specs.Messages.{message_refusal, message_prepare, message_expiry}
use Rattle.ilp_replies.specs.EngineMessage.{PlainEngineMessage, engine_message, PlainPeerMessage, peer_message}

-- All stays but for the moments of the clock.
pub record IsUntouched (before after : PlainWorker) : Type 0 where
  pub share : after.share ≡ before.share
  pub records : after.records ≡ before.records
  pub links : (after.sent ≡ before.sent) × (after.engine ≡ before.engine)
  pub seen : after.seen ≡ before.seen
  pub kept : after.kept ≡ before.kept
  pub reply_stays : after.reply ≡ before.reply
  pub pending : after.pending ≡ before.pending

-- ---- a message of a peer's engine for the engine here

-- At one moment of the clock nothing refuses the Prepare, and the engine is to be handed its data for the peer.
pub record IsAsked (C : Configuration) (from : ℕ) (packet : PlainPrepare) (before after : PlainWorker) (m : PlainEngineMessage) : Type 0 where
  pub now : ℤ
  pub asked : Tells before.moments now after.moments
  pub passes : message_refusal C from now packet ≡ None
  pub message : m ≡ engine_message from packet.payload
  pub untouched : IsUntouched before after

-- The engine here is handed the message, and this came back for it. All else stays, but for the last answer.
pub record IsEngineHanded (m : PlainEngineMessage) (came : Option (List ℕ)) (before after : PlainWorker) : Type 0 where
  pub handed : Tells before.engine (messaged (messaging m.from m.octets came)) after.engine
  pub moments : after.moments ≡ before.moments
  pub share : after.share ≡ before.share
  pub records : after.records ≡ before.records
  pub sent : after.sent ≡ before.sent
  pub seen : after.seen ≡ before.seen
  pub kept : after.kept ≡ before.kept

-- ---- a message of the engine here for a peer's engine

-- At one moment of the clock the peer is to be handed one packet with the message.
pub record IsAddressed (C : Configuration) (peer : ℕ) (octets : List ℕ) (before after : PlainWorker) (m : PlainPeerMessage) : Type 0 where
  pub within : length octets ≤ most_payload
  pub now : ℤ
  pub asked : Tells before.moments now after.moments
  pub packet : List ℕ
  pub message : m ≡ peer_message peer packet (message_expiry C now)
  pub spelled : Spells packet (prepare (message_prepare (message_expiry C now) octets))
  pub untouched : IsUntouched before after

-- The peer is handed the packet, and this came back for it. All else stays, but for the last answer.
pub record IsPeerAsked (m : PlainPeerMessage) (came : Option (List ℕ)) (before after : PlainWorker) : Type 0 where
  pub handed : Tells before.sent (sending m.to m.packet m.deadline came) after.sent
  pub moments : after.moments ≡ before.moments
  pub share : after.share ≡ before.share
  pub records : after.records ≡ before.records
  pub engine : after.engine ≡ before.engine
  pub seen : after.seen ≡ before.seen
  pub kept : after.kept ≡ before.kept

-- Memory for its packet was denied.
pub record IsUnaddressed (octets : List ℕ) (before after : PlainWorker) : Type 0 where
  pub within : length octets ≤ most_payload
  pub now : ℤ
  pub asked : Tells before.moments now after.moments
  pub untouched : IsUntouched before after

-- A message that is too long leaves all as it was.
abbrev pub Addresses : Configuration → ℕ → List ℕ → PlainWorker → PlainWorker → Result PlainPeerMessage MessageFault → Type 0
Addresses C peer octets before after (Ok m) = IsAddressed C peer octets before after m
Addresses C peer octets before after (Err message_fault.TooLong) = (most_payload < length octets) × (after ≡ before)
Addresses C peer octets before after (Err message_fault.Memory) = IsUnaddressed octets before after
Addresses C peer octets before after (Err message_fault.NoAnswer) = ⊥
