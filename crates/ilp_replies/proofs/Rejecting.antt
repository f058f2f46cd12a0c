-- The connector's own Rejects are within their limits, and have so many octets.
use Rattle.std.proofs.Common.{◌≡◌, ℕ, ◌≤◌, ◌+◌, List, [], ◌++◌, length, refl, sym, ◌∙◌, ap, arith}
use Rattle.std.specs.Prelude.{Result, Ok, Err, IsOk}
use Rattle.std.proofs.lemmas.Bool.Decides.{nat_tests}
use Rattle.ilp_oer.specs.OctetString as oer
use Rattle.ilp_oer.specs.Octets.{OctetsWithRoom}
use Rattle.ilp_packet.specs.Address.{most_address}
use Rattle.ilp_packet.specs.Packet.{PlainReject, PlainPacket, reject, IsReject}
use Rattle.ilp_packet.specs.Writing.{size, Writes}
use Rattle.ilp_packet.proofs.AddressLemmas.{address_from_test}
use Rattle.ilp_packet.proofs.ContentLemmas.{length-reject}
use Rattle.ilp_packet.proofs.WritingLemmas.{size_by_content, one_size}
use Rattle.ilp_accounts.specs.Configuration.{Configuration}
use Rattle.ilp_accounts.specs.Valid.{IsValid}
use Rattle.ilp_replies.specs.declared.rejects.LocalReject.{LocalReject}
use Rattle.ilp_replies.specs.declared.rejects.LocalReject.TheVariants.{AmountTooLarge}
use Rattle.ilp_replies.specs.Rejects.{code_of, message_of, payload_of, local_reject, longest_local_reject}

-- a valid configuration's address is as long as an address may be, at most
pub address_is_short : (C : Configuration) → IsValid C → length C.settings.address ≤ most_address
address_is_short C valid = (address_from_test C.settings.address valid.settings.address).within

-- a code has three octets
three_octets : (why : LocalReject) → length (code_of why) ≡ 3
three_octets (AmountTooLarge received most) = refl
three_octets _ = refl

-- the octets of a text and of its prefix
abbrev octets_of : List ℕ → ℕ
octets_of text = length (oer.prefix (length text)) + length text

-- message and data have at most 34 octets, with their prefixes
texts_are_short : (why : LocalReject) → octets_of (message_of why) + octets_of (payload_of why) ≤ 34
texts_are_short (AmountTooLarge received most) = omega arith
texts_are_short _ = omega arith

-- a local Reject is within its limits
pub local_reject_fits : (C : Configuration) (why : LocalReject) → length C.settings.address ≤ most_address → IsReject (local_reject C why)
local_reject_fits C why short = record {
  code = three_octets why;
  triggered_by = short;
  message = let texts = texts_are_short why in omega arith;
  payload = let texts = texts_are_short why in omega arith;
}

-- its size, by the lengths of its fields
local_reject-size : (C : Configuration) (why : LocalReject) (n : ℕ)
    → n ≡ 3 + (octets_of C.settings.address + octets_of (message_of why)) + octets_of (payload_of why)
    → size (reject (local_reject C why)) ≡ 1 + (length (oer.prefix n) + n)
local_reject-size C why n e =
    size_by_content (reject (local_reject C why)) n (e ∙ sym (length-reject (local_reject C why) (three_octets why)))

-- no local Reject is longer than the longest
pub local_reject_is_short : (C : Configuration) (why : LocalReject) → length C.settings.address ≤ most_address → size (reject (local_reject C why)) ≤ longest_local_reject
local_reject_is_short C why short =
    let n : ℕ = 3 + (octets_of C.settings.address + octets_of (message_of why)) + octets_of (payload_of why) in
    let whole = local_reject-size C why n refl in
    let texts = texts_are_short why in
    let first : length (oer.prefix n) ≤ 3 = grind (arith, nat_tests) in
    let second : length (oer.prefix (length C.settings.address)) ≤ 3 = grind (arith, nat_tests) in
    omega arith

-- with amounts, and an address as long as can be, it is as long
pub longest_reject : (C : Configuration) (received most : ℕ) → length C.settings.address ≡ most_address → size (reject (local_reject C (AmountTooLarge received most))) ≡ longest_local_reject
longest_reject C received most long =
    local_reject-size C (AmountTooLarge received most) 1063 (rw long refl)

-- fields of a valid configuration's local Reject make a packet within its limits, which is not longer than the longest
pub fields_fit : (C : Configuration) (why : LocalReject) (code address message payload : List ℕ) → IsValid C
    → code ≡ code_of why → address ≡ C.settings.address → message ≡ message_of why → payload ≡ payload_of why
    → (let packet : PlainReject = record { code = code; triggered_by = address; message = message; payload = payload } in
    IsReject packet × (size (reject packet) ≤ longest_local_reject))
fields_fit C why code address message payload valid same_code same_address same_message same_payload =
    let short = address_is_short C valid in
    rw (same_code, same_address, same_message, same_payload) (local_reject_fits C why short, local_reject_is_short C why short)

-- a packet that is written where no octet is takes of the room what it needs
pub alone_in_room : {E : Type 0} (packet : PlainPacket) (old new : OctetsWithRoom) (result : Result (Unit {0}) E) → Writes packet old new result → IsOk result → old.octets ≡ [] → size packet ≤ old.spare
    → length new.octets + new.spare ≡ old.spare
alone_in_room packet old new (Ok done) h fine none room =
    let alone : new.octets ≡ h.ok.octets = h.ok.whole ∙ ap (λ (xs : List ℕ). xs ++ h.ok.octets) none in
    omega (arith, ap length alone, one_size h.ok.octets packet h.ok.spells, h.used room)
alone_in_room packet old new (Err e) h fine none room = absurd cc
