-- Reading a packet (RFC 0027, RFC 0030) from left to right, with the first fault that is met.
use Rattle.std.specs.Prelude.{◌≡◌, ℕ, ℤ, not, List, [], ◌∷◌, length, take, drop, slice_index, Option, Some, None, Result, Ok, Err, nat_lt, ◌==◌, if◌then◌else◌}
use Rattle.std.specs.Result.{result_err}
use Rattle.std.specs.Int.{w64, from_be_bytes}
use Rattle.ilp_order.specs.Refusals.{◌>>=◌, refuse_if}
pub use Rattle.ilp_oer.specs.Octets.{AreOctets}
use Rattle.ilp_oer.specs.OctetString as oer
use Rattle.ilp_oer.specs.declared.fault.OerFault.{OerFault}
use Rattle.ilp_oer.specs.declared.fault.OerFault.TheVariants as oer_faults
use Rattle.ilp_terms.specs.Expiry.{moment_of}
use Rattle.ilp_packet.specs.declared.fault.PacketFault.{PacketFault}
use Rattle.ilp_packet.specs.declared.fault.PacketFault.TheVariants.{Truncated, BadPrefix, TooLong, UnknownType, Trailing, BadExpiry, BadAddress, FieldTooLong}
use Rattle.ilp_packet.specs.Address.{is_address}
use Rattle.ilp_packet.specs.ExpiryTest.{is_expiry}
use Rattle.ilp_packet.specs.Packet.{most_payload, most_message, most_triggered_by, PlainPrepare, PlainFulfill, PlainReject, PlainPacket, prepare, fulfill, reject}

-- What a function returned, seen by a view, is what reading gives.
abbrev pub Gives : {X Y : Type 0} → (X → Y) → Result X PacketFault → Result Y PacketFault → Type 0
Gives view (Ok x) read = read ≡ Ok (view x)
Gives view (Err fault) read = read ≡ Err fault

-- a fault of an octet string, as one of a packet
abbrev pub of_octet_string : OerFault → PacketFault
of_octet_string oer_faults.Truncated = Truncated
of_octet_string oer_faults.BadPrefix = BadPrefix
of_octet_string oer_faults.TooLong = TooLong

-- ---- Fields: each is read as its value, with the octets after it.

-- a field of so many octets
unfoldable pub chunk_at : ℕ → List ℕ → Result (List ℕ × List ℕ) PacketFault
chunk_at size octets =
    if nat_lt (length octets) size then Err Truncated else Ok (take size octets, drop size octets)

-- a number of eight octets, greatest first
unfoldable pub amount_at : List ℕ → Result (ℕ × List ℕ) PacketFault
amount_at octets = do
  field ← chunk_at 8 octets
  Ok (from_be_bytes w64 field.0, field.1)

-- an expiry, as the moment that it names
unfoldable pub expiry_at : List ℕ → Result (ℤ × List ℕ) PacketFault
expiry_at octets = do
  field ← chunk_at 17 octets
  _ ← refuse_if (not (is_expiry field.0)) BadExpiry
  Ok (moment_of field.0, field.1)

-- where no fault is, the content that the prefix tells and what follows it
abbrev pub string_unless : Option OerFault → List ℕ → Result (List ℕ × List ℕ) PacketFault
string_unless (Some fault) octets = Err (of_octet_string fault)
string_unless None octets =
    let after = drop (oer.prefix_len (slice_index octets 0)) octets in
    Ok (take (oer.told_len octets) after, drop (oer.told_len octets) after)

-- an octet string, as its content
unfoldable pub string_at : List ℕ → Result (List ℕ × List ℕ) PacketFault
string_at octets = string_unless (oer.fault_of octets) octets

-- an octet string of a limited content
unfoldable pub string_within : ℕ → List ℕ → Result (List ℕ × List ℕ) PacketFault
string_within limit octets = do
  field ← string_at octets
  _ ← refuse_if (nat_lt limit (length field.0)) FieldTooLong
  Ok field

-- an address as an octet string
unfoldable pub address_at : List ℕ → Result (List ℕ × List ℕ) PacketFault
address_at octets = do
  field ← string_at octets
  _ ← refuse_if (not (is_address field.0)) BadAddress
  Ok field

-- a last field's value: no octet follows it
unfoldable pub last_of : {X : Type 0} → X × List ℕ → Result X PacketFault
last_of (value, rest) = if length rest == 0 then Ok value else Err Trailing

-- the data, the last field of each content
unfoldable pub payload_in : List ℕ → Result (List ℕ) PacketFault
payload_in octets = do
  field ← string_within most_payload octets
  last_of field

-- ---- contents

unfoldable pub prepare_in : List ℕ → Result PlainPrepare PacketFault
prepare_in content = do
  amount ← amount_at content
  expires ← expiry_at amount.1
  condition ← chunk_at 32 expires.1
  destination ← address_at condition.1
  payload ← payload_in destination.1
  Ok (record { amount = amount.0; expires = expires.0; condition = condition.0; destination = destination.0; payload = payload })

unfoldable pub fulfill_in : List ℕ → Result PlainFulfill PacketFault
fulfill_in content = do
  preimage ← chunk_at 32 content
  payload ← payload_in preimage.1
  Ok (record { preimage = preimage.0; payload = payload })

unfoldable pub reject_in : List ℕ → Result PlainReject PacketFault
reject_in content = do
  code ← chunk_at 3 content
  triggered_by ← string_within most_triggered_by code.1
  message ← string_within most_message triggered_by.1
  payload ← payload_in message.1
  Ok (record { code = code.0; triggered_by = triggered_by.0; message = message.0; payload = payload })

-- ---- packets

-- the content after a type octet: one octet string, which nothing follows
unfoldable pub content_at : List ℕ → Result (List ℕ) PacketFault
content_at octets = do
  field ← string_at octets
  last_of field

-- each packet, from what follows its type octet
abbrev pub prepare_at : List ℕ → Result PlainPrepare PacketFault
prepare_at octets = content_at octets >>= prepare_in

abbrev pub fulfill_at : List ℕ → Result PlainFulfill PacketFault
fulfill_at octets = content_at octets >>= fulfill_in

abbrev pub reject_at : List ℕ → Result PlainReject PacketFault
reject_at octets = content_at octets >>= reject_in

-- what was read, as a packet
abbrev pub as_packet : {X : Type 0} → (X → PlainPacket) → Result X PacketFault → Result PlainPacket PacketFault
as_packet make read = read >>= λ x. Ok (make x)

-- the packet for which octets stand, or their first fault
unfoldable pub reading : List ℕ → Result PlainPacket PacketFault
reading [] = Err Truncated
reading (number ∷ octets) =
    if number == 12 then as_packet prepare (content_at octets >>= prepare_in)
    else (if number == 13 then as_packet fulfill (content_at octets >>= fulfill_in)
    else (if number == 14 then as_packet reject (content_at octets >>= reject_in)
    else Err UnknownType))

-- the first fault of octets; none where they stand for a packet
abbrev pub fault_of : List ℕ → Option PacketFault
fault_of octets = result_err (reading octets)
