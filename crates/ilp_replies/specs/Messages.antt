-- Messages between settlement engines (RFC 0038): the Prepares of amount 0 to `peer.settle` that carry them, and what is answered.
use Rattle.std.specs.Prelude.{◌≡◌, ℕ, ◌==◌, nat_le, ℤ, pos, ◌+ℤ◌, int_le, not, if◌then◌else◌, List, [], ◌∷◌, length, replicate, codes, bytes_eq, Option, Some, None, is_none, Result, Ok, Err}
use Rattle.std.specs.Int.{int_min, int_max}
use Rattle.ilp_order.specs.Checks.{first_of, when}
use Rattle.ilp_terms.specs.Expiry.{last_of_all}
use Rattle.ilp_packet.specs.declared.fault.PacketFault.{PacketFault}
use Rattle.ilp_packet.specs.Packet.{PlainPacket, PlainPrepare, PlainFulfill, prepare, fulfill, reject, most_payload, Spells}
use Rattle.ilp_packet.specs.Reading.{reading}
use Rattle.ilp_accounts.specs.Configuration.{Configuration, peer_at}
use Rattle.ilp_link_traits.specs.declared.links.ReplyKind.{ReplyKind}
use Rattle.ilp_link_traits.specs.declared.links.ReplyKind.TheVariants.{Answer, NoAnswer}
use Rattle.ilp_replies.specs.declared.rejects.LocalReject.{LocalReject}
use Rattle.ilp_replies.specs.declared.rejects.LocalReject.TheVariants as local
use Rattle.ilp_replies.specs.declared.rejects.ToldReject.{ToldReject}
use Rattle.ilp_replies.specs.declared.rejects.ToldReject.TheVariants.{Own}
use Rattle.ilp_replies.specs.declared.answer.Receipt.{Receipt}
use Rattle.ilp_replies.specs.Rejects.{local_reject}
use Rattle.ilp_replies.specs.Replies.{unbooked}

-- ---- the packets of messages

-- the address to which messages go
abbrev pub settle_address : List ℕ
settle_address = codes "peer.settle"

-- the fulfillment of every message
abbrev pub zero_preimage : List ℕ
zero_preimage = replicate 32 0

-- its SHA-256 digest, the condition of every message: 66687aad f862bd77 6c8fc18b 8e9f8e20 08971485 6ee233b3 902a591d 0d5f2925
abbrev pub zero_condition : List ℕ
zero_condition =
    102 ∷ 104 ∷ 122 ∷ 173 ∷ 248 ∷ 98 ∷ 189 ∷ 119 ∷ 108 ∷ 143 ∷ 193 ∷ 139 ∷ 142 ∷ 159 ∷ 142 ∷ 32
    ∷ 8 ∷ 151 ∷ 20 ∷ 133 ∷ 110 ∷ 226 ∷ 51 ∷ 179 ∷ 144 ∷ 42 ∷ 89 ∷ 29 ∷ 13 ∷ 95 ∷ 41 ∷ 37 ∷ []

-- a Prepare for the settlement engine here
abbrev pub IsForEngine : PlainPrepare → Type 0
IsForEngine packet = packet.destination ≡ settle_address

-- the Prepare that carries a message
abbrev pub message_prepare : ℤ → List ℕ → PlainPrepare
message_prepare expires octets = record { amount = 0; expires = expires; condition = zero_condition; destination = settle_address; payload = octets }

-- the Fulfill that carries what an engine answered
abbrev pub zero_fulfill : List ℕ → PlainFulfill
zero_fulfill octets = record { preimage = zero_preimage; payload = octets }

-- the most octets of such a Fulfill
abbrev pub longest_fulfill : ℕ
longest_fulfill = 32806

-- ---- a message of a peer's engine for the engine here

-- a time, brought to the years 1970 to 9999
abbrev pub within_years : ℤ → ℤ
within_years now = int_max (pos 0) (int_min now last_of_all)

-- the first refusal of a Prepare for the engine here, at a time
abbrev pub message_refusal : Configuration → ℕ → ℤ → PlainPrepare → Option LocalReject
message_refusal C from now packet =
    first_of (
    when (not (packet.amount == 0)) local.InvalidAmount
    ∷ when (not (bytes_eq packet.condition zero_condition)) local.WrongCondition
    ∷ when (int_le packet.expires (within_years now)) local.TransferTimedOut
    ∷ when (is_none (peer_at C from).engine) local.Unreachable ∷ []
    )

-- why the engine is handed nothing: the first refusal, or want of memory where there is none
abbrev pub IsWhyRefused : Option LocalReject → LocalReject → Type 0
IsWhyRefused (Some refusal) why = why ≡ refusal
IsWhyRefused None why = why ≡ local.InternalError

-- the data of the Fulfill for what the engine answered, or the Reject for no answer or one that no packet carries
abbrev pub engine_answer : Option (List ℕ) → Result (List ℕ) LocalReject
engine_answer None = Err local.PeerUnreachable
engine_answer (Some octets) = if nat_le (length octets) most_payload then Ok octets else Err local.PeerUnreachable

-- the same, of what stands in memory: the data, unless there is a Reject
abbrev pub answered_with : Result (Unit {0}) LocalReject → List ℕ → Result (List ℕ) LocalReject
answered_with (Ok x) octets = Ok octets
answered_with (Err why) octets = Err why

-- what the sender of a message is answered, as a packet
abbrev pub answer_packet : Configuration → Result (List ℕ) LocalReject → PlainPacket
answer_packet C (Ok octets) = fulfill (zero_fulfill octets)
answer_packet C (Err why) = reject (local_reject C why)

-- the Reject that the sender of a message is told, if it is one
abbrev pub reject_in : Result (List ℕ) LocalReject → Option ToldReject
reject_in (Ok octets) = None
reject_in (Err why) = Some (Own why)

-- The peer is answered by what came: these octets, of a Fulfill or of a Reject, which the receipt names.
pub record IsMessageTold (C : Configuration) (came : Option (List ℕ)) (receipt : Receipt) (octets : List ℕ) : Type 0 where
  pub reply : Spells octets (answer_packet C (engine_answer came))
  pub named : receipt ≡ unbooked (reject_in (engine_answer came))

-- ---- a message of the engine here for a peer's engine

-- when a message expires that is sent at a time
abbrev pub message_expiry : Configuration → ℤ → ℤ
message_expiry C now = int_min (within_years now +ℤ pos C.settings.max_hold_ms) last_of_all

-- the data of a packet, if it is a Fulfill of 32 zero octets
abbrev pub peer_answer_in : Result PlainPacket PacketFault → Option (List ℕ)
peer_answer_in (Ok (prepare p)) = None
peer_answer_in (Ok (fulfill f)) = if bytes_eq f.preimage zero_preimage then Some f.payload else None
peer_answer_in (Ok (reject r)) = None
peer_answer_in (Err fault) = None

-- what the peer's engine answered, by the octets that came back for its message, if any did
abbrev pub peer_answer_of : Option (List ℕ) → Option (List ℕ)
peer_answer_of (Some octets) = peer_answer_in (reading octets)
peer_answer_of None = None

-- what the link is told of a packet: whether it is a Fulfill or a Reject
abbrev pub kind_in : Result PlainPacket PacketFault → ReplyKind
kind_in (Ok (prepare p)) = NoAnswer
kind_in (Ok (fulfill f)) = Answer
kind_in (Ok (reject r)) = Answer
kind_in (Err fault) = NoAnswer

-- the same, of the octets that came back, if any did
abbrev pub kind_of_reply : Option (List ℕ) → ReplyKind
kind_of_reply (Some octets) = kind_in (reading octets)
kind_of_reply None = NoAnswer
