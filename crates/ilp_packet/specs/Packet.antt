-- Packets (RFC 0027), and the octets that stand for them.
use Rattle.std.specs.Prelude.{◌≡◌, ℕ, ◌<◌, ◌≤◌, ◌^◌, ℤ, List, [], ◌∷◌, ◌++◌, length}
use Rattle.std.specs.Int.{w64, to_be_bytes}
use Rattle.ilp_oer.specs.OctetString as oer
use Rattle.ilp_terms.specs.Expiry.{IsExpiry, IsMoment, moment_of}
use Rattle.ilp_packet.specs.Address.{IsAddress}
use Rattle.ilp_packet.specs.declared.packet.Packet.{Packet}
use Rattle.ilp_packet.specs.declared.packet.Packet.TheVariants as packets
use Rattle.ilp_packet.specs.declared.packet.Prepare.{Prepare}
use Rattle.ilp_packet.specs.declared.packet.Fulfill.{Fulfill}
use Rattle.ilp_packet.specs.declared.packet.Reject.{Reject}

-- ---- packets, apart from where they lie in memory

-- asks for an amount to be passed on; it expires at a moment, in milliseconds since 1970-01-01
pub record PlainPrepare : Type 0 where
  pub amount : ℕ
  pub expires : ℤ
  pub condition : List ℕ
  pub destination : List ℕ
  pub payload : List ℕ

-- says that the receiver took the amount
pub record PlainFulfill : Type 0 where
  pub preimage : List ℕ
  pub payload : List ℕ

-- says that the amount was not passed on, and why
pub record PlainReject : Type 0 where
  pub code : List ℕ
  pub triggered_by : List ℕ
  pub message : List ℕ
  pub payload : List ℕ

-- a packet is one of these
pub data PlainPacket : Type 0 where
  prepare : PlainPrepare → PlainPacket
  fulfill : PlainFulfill → PlainPacket
  reject : PlainReject → PlainPacket

-- what packets in memory say

abbrev pub plain_prepare : Prepare → PlainPrepare
plain_prepare p = record { amount = p.amount; expires = p.expires; condition = p.condition.now; destination = p.destination.now; payload = p.payload.now }

abbrev pub plain_fulfill : Fulfill → PlainFulfill
plain_fulfill f = record { preimage = f.preimage.now; payload = f.payload.now }

abbrev pub plain_reject : Reject → PlainReject
plain_reject r = record { code = r.code.now; triggered_by = r.triggered_by.now; message = r.message.now; payload = r.payload.now }

abbrev pub plain : Packet → PlainPacket
plain (packets.Prepare p) = prepare (plain_prepare p)
plain (packets.Fulfill f) = fulfill (plain_fulfill f)
plain (packets.Reject r) = reject (plain_reject r)

-- ---- limits

-- the most octets of a packet's data
abbrev pub most_payload : ℕ
most_payload = 32767

-- the most octets of a Reject's message
abbrev pub most_message : ℕ
most_message = 8191

-- the most octets of the address that triggered a Reject
abbrev pub most_triggered_by : ℕ
most_triggered_by = 1023

-- 64 bits of amount, a moment of the years 0 to 9999, a digest of SHA-256, an address, and data
pub record IsPrepare (p : PlainPrepare) : Type 0 where
  pub amount : p.amount < 2 ^ 64
  pub expires : IsMoment p.expires
  pub condition : length p.condition ≡ 32
  pub destination : IsAddress p.destination
  pub payload : length p.payload ≤ most_payload

-- a fulfillment of 32 octets, and data
pub record IsFulfill (f : PlainFulfill) : Type 0 where
  pub preimage : length f.preimage ≡ 32
  pub payload : length f.payload ≤ most_payload

-- a code of three octets, and three fields of any octets
pub record IsReject (r : PlainReject) : Type 0 where
  pub code : length r.code ≡ 3
  pub triggered_by : length r.triggered_by ≤ most_triggered_by
  pub message : length r.message ≤ most_message
  pub payload : length r.payload ≤ most_payload

-- each field of a packet is within its limits
abbrev pub IsWithin : PlainPacket → Type 0
IsWithin (prepare p) = IsPrepare p
IsWithin (fulfill f) = IsFulfill f
IsWithin (reject r) = IsReject r

-- ---- octets

-- the number of a packet's type
abbrev pub type_octet : PlainPacket → ℕ
type_octet (prepare p) = 12
type_octet (fulfill f) = 13
type_octet (reject r) = 14

-- the fields of a packet, in order, where `expiry` is the text of a Prepare's expiry
abbrev pub content : List ℕ → PlainPacket → List ℕ
content expiry (prepare p) =
    to_be_bytes w64 p.amount
    ++ (expiry ++ (p.condition ++ (oer.spelling p.destination ++ oer.spelling p.payload)))
content expiry (fulfill f) = f.preimage ++ oer.spelling f.payload
content expiry (reject r) =
    r.code ++ (oer.spelling r.triggered_by ++ (oer.spelling r.message ++ oer.spelling r.payload))

-- a type octet, and then the content as one octet string
abbrev pub spelling : List ℕ → PlainPacket → List ℕ
spelling expiry packet = type_octet packet ∷ oer.spelling (content expiry packet)

-- The text names the moment at which a Prepare expires. Other packets have no such text.
abbrev pub NamesExpiry : List ℕ → PlainPacket → Type 0
NamesExpiry text (prepare p) = IsExpiry text × (moment_of text ≡ p.expires)
NamesExpiry text (fulfill f) = text ≡ []
NamesExpiry text (reject r) = text ≡ []

-- the octets stand for the packet
pub record Spells (octets : List ℕ) (packet : PlainPacket) : Type 0 where
  pub within : IsWithin packet
  pub expiry : List ℕ
  pub names : NamesExpiry expiry packet
  pub whole : octets ≡ spelling expiry packet
