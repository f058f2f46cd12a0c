-- The packets of messages between engines are within their limits, and what comes for one is an answer or none.
use Rattle.std.proofs.Common.{◌≡◌, ℕ, ◌+◌, ◌≤◌, ℤ, Bool, true, false, List, length, Option, Some, None, refl, sym, ap, ◌∙◌, arith, lit<, rules}
use Rattle.std.specs.Prelude.{Result, Ok, Err, is_some, IsSome, if◌then◌else◌, bytes_eq}
use Rattle.std.proofs.lemmas.Bool.Decides.{nat_tests}
use Rattle.std.proofs.lemmas.Slice.Eq.{bytes_eq-Decides}
use Rattle.ilp_oer.specs.OctetString as oer
use Rattle.ilp_terms.specs.Expiry.{IsMoment}
use Rattle.ilp_packet.specs.Address.{is_scheme, is_address}
use Rattle.ilp_packet.specs.Packet.{PlainPacket, most_payload, prepare, fulfill, reject, IsPrepare, IsFulfill, Spells}
use Rattle.ilp_packet.specs.declared.fault.PacketFault.{PacketFault}
use Rattle.ilp_packet.specs.Reading.{AreOctets, reading}
use Rattle.ilp_packet.specs.Writing.{size}
use Rattle.ilp_packet.proofs.AddressLemmas.{address_from_test}
use Rattle.ilp_packet.proofs.ContentLemmas.{length-fulfill}
use Rattle.ilp_packet.proofs.ReadingLemmas.{reading_spelled, reading_again}
use Rattle.ilp_packet.proofs.WritingLemmas.{size_by_content}
use Rattle.ilp_link_traits.specs.declared.links.LinkFault.{LinkFault}
use Rattle.ilp_link_traits.specs.Links.{came_of}
use Rattle.ilp_replies.specs.Messages.{settle_address, message_prepare, zero_preimage, zero_fulfill, peer_answer_in, longest_fulfill, peer_answer_of}

-- ---- packets

-- messages go to an address
settle_address_is : is_address settle_address ≡ true
unfolding is_address is_scheme
settle_address_is = refl

-- the Prepare of a message is within its limits
pub message_fits : (expires : ℤ) (octets : List ℕ) → IsMoment expires → length octets ≤ most_payload → IsPrepare (message_prepare expires octets)
message_fits expires octets moment within = record {
  amount = lit< tt;
  expires = moment;
  condition = refl;
  destination = address_from_test settle_address settle_address_is;
  payload = within;
}

-- the Fulfill of an answer is within its limits
pub answer_fits : (octets : List ℕ) → length octets ≤ most_payload → IsFulfill (zero_fulfill octets)
answer_fits octets within = record { preimage = refl; payload = within }

-- and not longer than the longest
pub answer_is_short : (octets : List ℕ) → length octets ≤ most_payload → size (fulfill (zero_fulfill octets)) ≤ longest_fulfill
answer_is_short octets within =
    let n : ℕ = 32 + (length (oer.prefix (length octets)) + length octets) in
    let whole = size_by_content (fulfill (zero_fulfill octets)) n (sym (length-fulfill (zero_fulfill octets) refl)) in
    let first : length (oer.prefix n) ≤ 3 = grind (arith, nat_tests) in
    let second : length (oer.prefix (length octets)) ≤ 3 = grind (arith, nat_tests) in
    omega arith

-- ---- what comes for a message

-- a test for a value tells that there is one
some_is : (answer : Option (List ℕ)) → is_some answer ≡ true → IsSome answer
some_is None is = absurd cc
some_is (Some x) is = search rules

-- what is an answer came
pub answer_came : (came : Result (Unit {0}) LinkFault) (reply : List ℕ) → is_some (peer_answer_of (came_of came reply)) ≡ true → (came_of came reply ≡ Some reply) × IsSome (peer_answer_of (Some reply))
answer_came (Ok x) reply is = (refl, some_is (peer_answer_of (Some reply)) is)
answer_came (Err fault) reply is = absurd cc

-- what is no answer has none
pub no_answer_came : (answer : Option (List ℕ)) → is_some answer ≡ false → answer ≡ None
no_answer_came None is = refl
no_answer_came (Some x) is = absurd cc

-- an answer that was read is the data of a Fulfill of 32 zero octets
answer_read : (read : Result PlainPacket PacketFault) (answer : List ℕ) → peer_answer_in read ≡ Some answer → read ≡ Ok (fulfill (zero_fulfill answer))
answer_read (Ok (prepare p)) answer is = absurd cc
answer_read (Ok (reject r)) answer is = absurd cc
answer_read (Err fault) answer is = absurd cc
answer_read (Ok (fulfill f)) answer is = of (bytes_eq f.preimage zero_preimage) refl is
  where
    of : (b : Bool) → bytes_eq f.preimage zero_preimage ≡ b → (if b then Some f.payload else None) ≡ Some answer → ◌≡◌ {A = Result PlainPacket PacketFault} (Ok (fulfill f)) (Ok (fulfill (zero_fulfill answer)))
    of false same is = absurd cc
    of true same is =
        let preimage : f.preimage ≡ zero_preimage = (bytes_eq-Decides f.preimage zero_preimage).0 same in
        let payload : f.payload ≡ answer = cc in
        ap (λ p. Ok (fulfill (record { preimage = p; payload = f.payload }))) preimage ∙ ap (λ p. Ok (fulfill (zero_fulfill p))) payload

-- so the octets stand for that
pub answer_spelled : (octets answer : List ℕ) → AreOctets octets → peer_answer_of (Some octets) ≡ Some answer → Spells octets (fulfill (zero_fulfill answer))
answer_spelled octets answer are is = reading_spelled octets (fulfill (zero_fulfill answer)) are (answer_read (reading octets) answer is)

-- and its octets are read as that
pub spelled_answer : (octets answer : List ℕ) → Spells octets (fulfill (zero_fulfill answer)) → peer_answer_of (Some octets) ≡ Some answer
spelled_answer octets answer spelled = ap peer_answer_in (reading_again octets (fulfill (zero_fulfill answer)) spelled)
