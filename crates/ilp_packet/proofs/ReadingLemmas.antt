-- Reading and spelling are each other's inverse.
use Rattle.std.proofs.Common.{◌≡◌, ℕ, suc, Bool, true, false, cond, eqb, List, [], ◌∷◌, None, Result, Ok, Err, refl, sym, ap, subst, ◌∙◌, ◌⊎◌, inl, inr, length, ◌<◌, arith}
use Rattle.std.specs.Prelude.{IfOk, IsOkAnd}
use Rattle.std.proofs.lemmas.Bool.{eqb-true}
use Rattle.std.specs.Result.{result_err}
use Rattle.ilp_order.specs.Refusals.{◌>>=◌}
use Rattle.ilp_order.proofs.RefusalLemmas.{bound, ok_same}
use Rattle.ilp_oer.specs.OctetString as oer
use Rattle.ilp_packet.specs.declared.fault.PacketFault.{PacketFault}
use Rattle.ilp_packet.specs.declared.packet.Packet.{Packet}
use Rattle.ilp_packet.specs.Packet.{PlainPacket, prepare, fulfill, reject, plain, content, spelling, type_octet, NamesExpiry, IsWithin, Spells}
use Rattle.ilp_packet.specs.Reading.{Gives, AreOctets, prepare_in, fulfill_in, reject_in, content_at, as_packet, reading, fault_of}
use Rattle.ilp_packet.proofs.FieldLemmas.{content_takes, content_again}
use Rattle.ilp_packet.proofs.ContentLemmas.{SpellsContent, prepare_takes, prepare_again, fulfill_takes, fulfill_again, reject_takes, reject_again, content_fits}

-- ---- what is read is spelled so

-- the content and the packet of octets that follow a type octet
record ReadBy {X : Type 0} (make : X → PlainPacket) (within : List ℕ → Result X PacketFault) (octets : List ℕ) (packet : PlainPacket) : Type 0 where
  pub found : List ℕ
  pub value : X
  pub taken : content_at octets ≡ Ok found
  pub read : within found ≡ Ok value
  pub made : make value ≡ packet

read_by : {X : Type 0} (make : X → PlainPacket) (within : List ℕ → Result X PacketFault) (octets : List ℕ) (packet : PlainPacket) → as_packet make (content_at octets >>= within) ≡ Ok packet → ReadBy make within octets packet
read_by make within octets packet e =
    let outer = bound (content_at octets >>= within) (λ x. Ok (make x)) packet e in
    let inner = bound (content_at octets) within outer.0 outer.1 in
    record { found = inner.0; value = outer.0; taken = inner.1; read = inner.2; made = ok_same _ _ outer.2 }

-- where what is read of a content spells it, the octets behind the type octet spell the packet
spelled_from : {X : Type 0} (make : X → PlainPacket) (within : List ℕ → Result X PacketFault)
    → ((found : List ℕ) (value : X) → AreOctets found → within found ≡ Ok value → SpellsContent found (make value))
    → (octets : List ℕ) (packet : PlainPacket) → AreOctets octets → (h : ReadBy make within octets packet) → Spells (type_octet (make h.value) ∷ octets) packet
spelled_from make within takes octets packet fits h =
    let taken = content_takes octets h.found fits h.taken in
    let t = takes h.found h.value taken.1 h.read in
    let number = type_octet (make h.value) in
    let spells : Spells (number ∷ octets) (make h.value) =
    record { within = t.within; expiry = t.expiry; names = t.names; whole = ap (λ (xs : List ℕ). number ∷ xs) (taken.0 ∙ ap oer.spelling t.whole) } in
    subst (Spells (number ∷ octets)) h.made spells

-- which way a test went
either_way : {A : Type 0} (b : Bool) (x y z : A) → cond b x y ≡ z → ((b ≡ true) × (x ≡ z)) ⊎ ((b ≡ false) × (y ≡ z))
either_way true x y z e = inl (refl, e)
either_way false x y z e = inr (refl, e)

pub reading_spelled : (octets : List ℕ) (packet : PlainPacket) → AreOctets octets → reading octets ≡ Ok packet → Spells octets packet
unfolding reading
reading_spelled [] packet fits e = absurd cc
reading_spelled (number ∷ octets) packet fits e =
    let more : AreOctets octets = λ place d in_more. fits (suc place) d (omega arith) in
    elim (either_way (eqb number 12) _ _ (Ok packet) e) [
      | inl p ↦ rw (eqb-true number 12 p.0) (spelled_from prepare prepare_in prepare_takes octets packet more (read_by prepare prepare_in octets packet p.1))
      | inr p ↦
          elim (either_way (eqb number 13) _ _ (Ok packet) p.1) [
            | inl q ↦ rw (eqb-true number 13 q.0) (spelled_from fulfill fulfill_in fulfill_takes octets packet more (read_by fulfill fulfill_in octets packet q.1))
            | inr q ↦
                elim (either_way (eqb number 14) _ _ (Ok packet) q.1) [
                  | inl r ↦ rw (eqb-true number 14 r.0) (spelled_from reject reject_in reject_takes octets packet more (read_by reject reject_in octets packet r.1))
                  | inr r ↦ let never = r.1 in absurd cc
                ]
          ]
    ]

-- ---- what is spelled is read

again : {X : Type 0} (make : X → PlainPacket) (within : List ℕ → Result X PacketFault) (text : List ℕ) (value : X) → length text < 65536 → within text ≡ Ok value → as_packet make (content_at (oer.spelling text) >>= within) ≡ Ok (make value)
again make within text value fits e =
    ap (λ (r : Result (List ℕ) PacketFault). as_packet make (r >>= within)) (content_again text fits) ∙ ap (as_packet make) e

spelled_again : (packet : PlainPacket) (expiry : List ℕ) → NamesExpiry expiry packet → IsWithin packet → reading (spelling expiry packet) ≡ Ok packet
unfolding reading
spelled_again (prepare p) expiry names within =
    again prepare prepare_in (content expiry (prepare p)) p (content_fits expiry (prepare p) names within) (prepare_again expiry p within names.0 names.1)
spelled_again (fulfill f) expiry names within =
    again fulfill fulfill_in (content expiry (fulfill f)) f (content_fits expiry (fulfill f) names within) (fulfill_again f within)
spelled_again (reject r) expiry names within =
    again reject reject_in (content expiry (reject r)) r (content_fits expiry (reject r) names within) (reject_again r within)

pub reading_again : (octets : List ℕ) (packet : PlainPacket) → Spells octets packet → reading octets ≡ Ok packet
reading_again octets packet h = ap reading h.whole ∙ spelled_again packet h.expiry h.names h.within

-- ---- faults

pub fault_of-spelled : (octets : List ℕ) (packet : PlainPacket) → Spells octets packet → fault_of octets ≡ None
fault_of-spelled octets packet h = ap result_err (reading_again octets packet h)

no_error : {X E : Type 0} (r : Result X E) → result_err r ≡ None → (x : X) × (r ≡ Ok x)
no_error (Ok x) e = (x, refl)
no_error (Err fault) e = absurd cc

pub spelled_without_fault : (octets : List ℕ) → AreOctets octets → fault_of octets ≡ None → (packet : PlainPacket) × Spells octets packet
spelled_without_fault octets fits none =
    let read = no_error (reading octets) none in
    (read.0, reading_spelled octets read.0 fits read.1)

-- octets stand for at most one packet
pub one_packet : (octets : List ℕ) (packet other : PlainPacket) → Spells octets packet → Spells octets other → packet ≡ other
one_packet octets packet other a b =
    ok_same packet other (sym (reading_again octets packet a) ∙ reading_again octets other b)

-- ---- what a reader returned

pub read_spells : (octets : List ℕ) (r : Result Packet PacketFault) → AreOctets octets → Gives plain r (reading octets) → IfOk r (λ packet. Spells octets (plain packet))
read_spells octets (Ok packet) fits given = reading_spelled octets (plain packet) fits given
read_spells octets (Err fault) fits given = tt

pub spelled_is_read : (octets : List ℕ) (r : Result Packet PacketFault) (packet : PlainPacket) → Gives plain r (reading octets) → Spells octets packet → IsOkAnd r (λ found. plain found ≡ packet)
spelled_is_read octets (Ok found) packet given h = ok_same (plain found) packet (sym given ∙ reading_again octets packet h)
spelled_is_read octets (Err fault) packet given h = let same = sym given ∙ reading_again octets packet h in absurd (cc same)
