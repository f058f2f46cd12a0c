-- Each content that is read is the one that is spelled, and what is spelled is read.
use Rattle.std.proofs.Common.{◌≡◌, ℕ, ◌+◌, ◌<◌, ◌≤◌, ℤ, List, [], ◌++◌, length, Result, Ok, refl, ap, subst, ◌∙◌, length-append, arith}
use Rattle.std.specs.Int.{w64, to_be_bytes}
use Rattle.std.proofs.lemmas.Bool.Decides.{nat_tests}
use Rattle.ilp_order.specs.Refusals.{◌>>=◌}
use Rattle.ilp_order.proofs.RefusalLemmas.{bound, ok_same}
use Rattle.ilp_oer.specs.OctetString as oer
use Rattle.ilp_terms.specs.Expiry.{IsExpiry, IsMoment, moment_of}
use Rattle.ilp_packet.specs.declared.fault.PacketFault.{PacketFault}
use Rattle.ilp_packet.specs.Packet.{most_message, most_triggered_by, PlainPrepare, PlainFulfill, PlainReject, PlainPacket, prepare, fulfill, reject, IsPrepare, IsFulfill, IsReject, IsWithin, NamesExpiry, content}
use Rattle.ilp_packet.specs.Reading.{AreOctets, chunk_at, amount_at, expiry_at, string_within, address_at, payload_in, prepare_in, fulfill_in, reject_in}
use Rattle.ilp_packet.proofs.MomentLemmas.{moment_of-in}
use Rattle.ilp_packet.proofs.FieldLemmas.{chunk_takes, chunk_again, amount_takes, amount_again, expiry_takes, expiry_again, string_within-takes, string_within-again, address_takes, address_again, payload_takes, payload_again}

-- octets are the content of a packet within its limits, with the text of its expiry
pub record SpellsContent (octets : List ℕ) (packet : PlainPacket) : Type 0 where
  pub within : IsWithin packet
  pub expiry : List ℕ
  pub names : NamesExpiry expiry packet
  pub whole : octets ≡ content expiry packet

-- ---- a Prepare

-- what is read after each field
abbrev after_payload : ℕ → ℤ → List ℕ → List ℕ → List ℕ → Result PlainPrepare PacketFault
after_payload amount expires condition destination payload = Ok (record { amount = amount; expires = expires; condition = condition; destination = destination; payload = payload })

abbrev after_destination : ℕ → ℤ → List ℕ → List ℕ × List ℕ → Result PlainPrepare PacketFault
after_destination amount expires condition destination = payload_in destination.1 >>= after_payload amount expires condition destination.0

abbrev after_condition : ℕ → ℤ → List ℕ × List ℕ → Result PlainPrepare PacketFault
after_condition amount expires condition = address_at condition.1 >>= after_destination amount expires condition.0

abbrev after_expiry : ℕ → ℤ × List ℕ → Result PlainPrepare PacketFault
after_expiry amount expires = chunk_at 32 expires.1 >>= after_condition amount expires.0

abbrev after_amount : ℕ × List ℕ → Result PlainPrepare PacketFault
after_amount amount = expiry_at amount.1 >>= after_expiry amount.0

pub prepare_takes : (octets : List ℕ) (p : PlainPrepare) → AreOctets octets → prepare_in octets ≡ Ok p → SpellsContent octets (prepare p)
unfolding prepare_in
prepare_takes octets p fits e =
    let amount = bound (amount_at octets) after_amount p e in
    let expires = bound (expiry_at amount.0.1) (after_expiry amount.0.0) p amount.2 in
    let condition = bound (chunk_at 32 expires.0.1) (after_condition amount.0.0 expires.0.0) p expires.2 in
    let destination = bound (address_at condition.0.1) (after_destination amount.0.0 expires.0.0 condition.0.0) p condition.2 in
    let payload = bound (payload_in destination.0.1) (after_payload amount.0.0 expires.0.0 condition.0.0 destination.0.0) p destination.2 in
    let t0 = amount_takes octets amount.0 fits amount.1 in
    let t1 = expiry_takes amount.0.1 expires.0 t0.0.rest_fits expires.1 in
    let t2 = chunk_takes 32 expires.0.1 condition.0 t1.1.rest_fits condition.1 in
    let t3 = address_takes condition.0.1 destination.0 t2.0.rest_fits destination.1 in
    let t4 = payload_takes destination.0.1 payload.0 t3.0.rest_fits payload.1 in
    let read : PlainPrepare = record { amount = amount.0.0; expires = expires.0.0; condition = condition.0.0; destination = destination.0.0; payload = payload.0 } in
    let spelled : SpellsContent octets (prepare read) = record {
      within = record { amount = t0.1; expires = subst IsMoment t1.3 (moment_of-in t1.0 t1.2); condition = t2.1; destination = t3.1; payload = t4.1 };
      expiry = t1.0;
      names = (t1.2, t1.3);
      whole =
          t0.0.parts ∙ ap (λ (xs : List ℕ). to_be_bytes w64 amount.0.0 ++ xs)
          (t1.1.parts ∙ ap (λ (xs : List ℕ). t1.0 ++ xs)
          (t2.0.parts ∙ ap (λ (xs : List ℕ). condition.0.0 ++ xs)
          (t3.0.parts ∙ ap (λ (xs : List ℕ). oer.spelling destination.0.0 ++ xs) t4.0)));
    } in
    subst (λ (q : PlainPrepare). SpellsContent octets (prepare q)) (ok_same read p payload.2) spelled

pub prepare_again : (expiry : List ℕ) (p : PlainPrepare) → IsPrepare p → IsExpiry expiry → moment_of expiry ≡ p.expires → prepare_in (content expiry (prepare p)) ≡ Ok p
unfolding prepare_in
prepare_again expiry p fits is_expiry names =
    let tail = oer.spelling p.destination ++ oer.spelling p.payload in
    rw (
      amount_again p.amount (expiry ++ (p.condition ++ tail)) fits.amount,
      expiry_again expiry (p.condition ++ tail) is_expiry,
      chunk_again 32 p.condition tail fits.condition,
      address_again p.destination (oer.spelling p.payload) fits.destination,
      payload_again p.payload fits.payload,
      names,
    ) refl

-- ---- a Fulfill

abbrev after_preimage : List ℕ × List ℕ → Result PlainFulfill PacketFault
after_preimage preimage = payload_in preimage.1 >>= λ payload. Ok (record { preimage = preimage.0; payload = payload })

pub fulfill_takes : (octets : List ℕ) (f : PlainFulfill) → AreOctets octets → fulfill_in octets ≡ Ok f → SpellsContent octets (fulfill f)
unfolding fulfill_in
fulfill_takes octets f fits e =
    let preimage = bound (chunk_at 32 octets) after_preimage f e in
    let payload = bound (payload_in preimage.0.1) (λ payload. Ok (record { preimage = preimage.0.0; payload = payload })) f preimage.2 in
    let t0 = chunk_takes 32 octets preimage.0 fits preimage.1 in
    let t1 = payload_takes preimage.0.1 payload.0 t0.0.rest_fits payload.1 in
    let read : PlainFulfill = record { preimage = preimage.0.0; payload = payload.0 } in
    let spelled : SpellsContent octets (fulfill read) = record {
      within = record { preimage = t0.1; payload = t1.1 };
      expiry = [];
      names = refl;
      whole = t0.0.parts ∙ ap (λ (xs : List ℕ). preimage.0.0 ++ xs) t1.0;
    } in
    subst (λ (g : PlainFulfill). SpellsContent octets (fulfill g)) (ok_same read f payload.2) spelled

pub fulfill_again : (f : PlainFulfill) → IsFulfill f → fulfill_in (content [] (fulfill f)) ≡ Ok f
unfolding fulfill_in
fulfill_again f fits =
    rw (chunk_again 32 f.preimage (oer.spelling f.payload) fits.preimage, payload_again f.payload fits.payload) refl

-- ---- a Reject

-- what is read after each field
abbrev after_data : List ℕ → List ℕ → List ℕ → List ℕ → Result PlainReject PacketFault
after_data code triggered_by message payload = Ok (record { code = code; triggered_by = triggered_by; message = message; payload = payload })

abbrev after_message : List ℕ → List ℕ → List ℕ × List ℕ → Result PlainReject PacketFault
after_message code triggered_by message = payload_in message.1 >>= after_data code triggered_by message.0

abbrev after_triggered_by : List ℕ → List ℕ × List ℕ → Result PlainReject PacketFault
after_triggered_by code triggered_by = string_within most_message triggered_by.1 >>= after_message code triggered_by.0

abbrev after_code : List ℕ × List ℕ → Result PlainReject PacketFault
after_code code = string_within most_triggered_by code.1 >>= after_triggered_by code.0

pub reject_takes : (octets : List ℕ) (r : PlainReject) → AreOctets octets → reject_in octets ≡ Ok r → SpellsContent octets (reject r)
unfolding reject_in
reject_takes octets r fits e =
    let code = bound (chunk_at 3 octets) after_code r e in
    let by = bound (string_within most_triggered_by code.0.1) (after_triggered_by code.0.0) r code.2 in
    let message = bound (string_within most_message by.0.1) (after_message code.0.0 by.0.0) r by.2 in
    let payload = bound (payload_in message.0.1) (after_data code.0.0 by.0.0 message.0.0) r message.2 in
    let t0 = chunk_takes 3 octets code.0 fits code.1 in
    let t1 = string_within-takes most_triggered_by code.0.1 by.0 t0.0.rest_fits by.1 in
    let t2 = string_within-takes most_message by.0.1 message.0 t1.0.rest_fits message.1 in
    let t3 = payload_takes message.0.1 payload.0 t2.0.rest_fits payload.1 in
    let read : PlainReject = record { code = code.0.0; triggered_by = by.0.0; message = message.0.0; payload = payload.0 } in
    let whole : octets ≡ content [] (reject read) =
    t0.0.parts ∙ ap (λ (xs : List ℕ). code.0.0 ++ xs)
    (t1.0.parts ∙ ap (λ (xs : List ℕ). oer.spelling by.0.0 ++ xs)
    (t2.0.parts ∙ ap (λ (xs : List ℕ). oer.spelling message.0.0 ++ xs) t3.0)) in
    let spelled : SpellsContent octets (reject read) = record {
      within = record { code = t0.1; triggered_by = t1.1; message = t2.1; payload = t3.1 };
      expiry = [];
      names = refl;
      whole = whole;
    } in
    subst (λ (s : PlainReject). SpellsContent octets (reject s)) (ok_same read r payload.2) spelled

pub reject_again : (r : PlainReject) → IsReject r → reject_in (content [] (reject r)) ≡ Ok r
unfolding reject_in
reject_again r fits =
    rw (
      chunk_again 3 r.code (oer.spelling r.triggered_by ++ (oer.spelling r.message ++ oer.spelling r.payload)) fits.code,
      string_within-again most_triggered_by r.triggered_by (oer.spelling r.message ++ oer.spelling r.payload) fits.triggered_by (omega arith),
      string_within-again most_message r.message (oer.spelling r.payload) fits.message (omega arith),
      payload_again r.payload fits.payload,
    ) refl

-- ---- lengths

-- the octets of a Prepare's amount, expiry and condition
abbrev pub fixed_prepare : ℕ
fixed_prepare = 8 + 17 + 32

-- the octets of an octet string are its prefix and its content
pub length-octets : (text : List ℕ) → length (oer.spelling text) ≡ length (oer.prefix (length text)) + length text
length-octets text = length-append (oer.prefix (length text)) text

-- a Prepare has the octets of its amount, expiry and condition, and two octet strings
pub length-prepare : (expiry : List ℕ) (p : PlainPrepare) → length expiry ≡ 17 → length p.condition ≡ 32
    → length (content expiry (prepare p)) ≡ fixed_prepare + (length (oer.prefix (length p.destination)) + length p.destination) + (length (oer.prefix (length p.payload)) + length p.payload)
length-prepare expiry p seventeen condition =
    omega (
      arith,
      seventeen,
      condition,
      length-octets p.destination,
      length-octets p.payload,
      length-append expiry (p.condition ++ (oer.spelling p.destination ++ oer.spelling p.payload)),
      length-append p.condition (oer.spelling p.destination ++ oer.spelling p.payload),
      length-append (oer.spelling p.destination) (oer.spelling p.payload),
    )

-- a Fulfill has the octets of its fulfillment, and one octet string
pub length-fulfill : (f : PlainFulfill) → length f.preimage ≡ 32
    → length (content [] (fulfill f)) ≡ 32 + (length (oer.prefix (length f.payload)) + length f.payload)
length-fulfill f preimage =
    omega (arith, preimage, length-octets f.payload, length-append f.preimage (oer.spelling f.payload))

-- a Reject has the octets of its code, and three octet strings
pub length-reject : (r : PlainReject) → length r.code ≡ 3
    → length (content [] (reject r)) ≡ 3 + ((length (oer.prefix (length r.triggered_by)) + length r.triggered_by) + (length (oer.prefix (length r.message)) + length r.message)) + (length (oer.prefix (length r.payload)) + length r.payload)
length-reject r code =
    omega (
      arith,
      code,
      length-octets r.triggered_by,
      length-octets r.message,
      length-octets r.payload,
      length-append r.code (oer.spelling r.triggered_by ++ (oer.spelling r.message ++ oer.spelling r.payload)),
      length-append (oer.spelling r.triggered_by) (oer.spelling r.message ++ oer.spelling r.payload),
      length-append (oer.spelling r.message) (oer.spelling r.payload),
    )

-- a prefix has at most three octets
length-prefix : (n : ℕ) → length (oer.prefix n) ≤ 3
length-prefix n = grind (arith, nat_tests)

-- a content within its limits is one octet string
pub content_fits : (expiry : List ℕ) (packet : PlainPacket) → NamesExpiry expiry packet → IsWithin packet → length (content expiry packet) < 65536
content_fits expiry (prepare p) names fits =
    let address = fits.destination.within in
    let short = fits.payload in
    omega (arith, length-prepare expiry p names.0.seventeen fits.condition, length-prefix (length p.destination), length-prefix (length p.payload))
content_fits expiry (fulfill f) names fits =
    let short = fits.payload in
    omega (arith, length-fulfill f fits.preimage, length-prefix (length f.payload))
content_fits expiry (reject r) names fits =
    let by = fits.triggered_by in
    let text = fits.message in
    let short = fits.payload in
    omega (arith, length-reject r fits.code, length-prefix (length r.triggered_by), length-prefix (length r.message), length-prefix (length r.payload))
