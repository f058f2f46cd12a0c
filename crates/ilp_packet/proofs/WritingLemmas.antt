-- What is written behind other octets is a packet's spelling, and has its size.
use Rattle.std.proofs.Common.{drop, Ok, sym, subst, ◌≡◌, ℕ, ◌+◌, List, ◌∷◌, ◌++◌, length, refl, ap, ◌∙◌, append_assoc, length-append, arith}
use Rattle.std.proofs.lemmas.List.{drop_at, append_cancel_left}
use Rattle.ilp_oer.specs.OctetString as oer
use Rattle.ilp_oer.proofs.Spellings.{Splits-unique}
use Rattle.ilp_packet.specs.Packet.{Spells, PlainPacket, prepare, fulfill, reject, IsWithin, NamesExpiry, type_octet, content, spelling}
use Rattle.ilp_packet.specs.Reading.{reading}
use Rattle.ilp_packet.specs.Writing.{seventeen_zeros, size, Appends}
use Rattle.ilp_packet.proofs.ContentLemmas.{length-octets, length-prepare, content_fits}
use Rattle.ilp_packet.proofs.ReadingLemmas.{reading_again, one_packet}

-- a packet's size by the length of its content
pub size_by_content : (packet : PlainPacket) (n : ℕ) → n ≡ length (content seventeen_zeros packet) → size packet ≡ 1 + (length (oer.prefix n) + n)
unfolding size
size_by_content packet n e =
    rw e (omega (arith, length-append (oer.prefix (length (content seventeen_zeros packet))) (content seventeen_zeros packet)))

-- type octet and prefix behind other octets, and then the content
pub appended : (before begun after expiry : List ℕ) (packet : PlainPacket) (n : ℕ) → IsWithin packet → NamesExpiry expiry packet → n ≡ length (content expiry packet)
    → begun ≡ before ++ (type_octet packet ∷ oer.prefix n) → after ≡ begun ++ content expiry packet → Appends before packet after
appended before begun after expiry packet n within names len begin end =
    let text = content expiry packet in
    record {
      octets = spelling expiry packet;
      spells = record { within = within; expiry = expiry; names = names; whole = refl };
      whole =
          end ∙ ap (λ (xs : List ℕ). xs ++ text) begin
          ∙ append_assoc before (type_octet packet ∷ oer.prefix n) text
          ∙ ap (λ (k : ℕ). before ++ ((type_octet packet ∷ oer.prefix k) ++ text)) len;
    }

-- a packet's content is as long whichever text its expiry has
one_length : (expiry : List ℕ) (packet : PlainPacket) → NamesExpiry expiry packet → IsWithin packet → length (content seventeen_zeros packet) ≡ length (content expiry packet)
one_length expiry (prepare p) names within =
    length-prepare seventeen_zeros p refl within.condition ∙ sym (length-prepare expiry p names.0.seventeen within.condition)
one_length expiry (fulfill f) names within = refl
one_length expiry (reject r) names within = refl

-- a packet's spellings have its size
pub one_size : (octets : List ℕ) (packet : PlainPacket) → Spells octets packet → length octets ≡ size packet
one_size octets packet h =
    let text = content h.expiry packet in
    ap length h.whole ∙ omega (arith, length-octets text, size_by_content packet (length text) (sym (one_length h.expiry packet h.names h.within)))

-- ---- what was written is read

pub written_is_read : (before after : List ℕ) (packet : PlainPacket) → Appends before packet after → reading (drop (length before) after) ≡ Ok packet
written_is_read before after packet h =
    ap reading (ap (drop (length before)) h.whole ∙ drop_at before h.octets (length before) refl) ∙ reading_again h.octets packet h.spells

heads_and_tails : (a b : ℕ) (xs ys : List ℕ) → a ∷ xs ≡ b ∷ ys → (a ≡ b) × (xs ≡ ys)
heads_and_tails a b xs ys e = (cc, cc)

-- two packets that stand at the front of the same octets are one
one_front : (octets more front rest : List ℕ) (packet other : PlainPacket) → Spells octets packet → Spells front other → octets ++ more ≡ front ++ rest
    → (other ≡ packet) × (front ≡ octets) × (rest ≡ more)
one_front octets more front rest packet other a b e =
    let text = content a.expiry packet in
    let text_b = content b.expiry other in
    let whole : spelling a.expiry packet ++ more ≡ spelling b.expiry other ++ rest =
    ap (λ (xs : List ℕ). xs ++ more) (sym a.whole) ∙ e ∙ ap (λ (xs : List ℕ). xs ++ rest) b.whole in
    let parts = heads_and_tails (type_octet packet) (type_octet other) (oer.spelling text ++ more) (oer.spelling text_b ++ rest) whole in
    let contents = Splits-unique (oer.spelling text ++ more) text more text_b rest
    (record { within = content_fits a.expiry packet a.names a.within; whole = refl })
    (record { within = content_fits b.expiry other b.names b.within; whole = parts.1 }) in
    let same : front ≡ octets =
    b.whole ∙ ap (λ (n : ℕ). n ∷ oer.spelling text_b) (sym parts.0) ∙ ap (λ (xs : List ℕ). type_octet packet ∷ oer.spelling xs) (sym contents.0) ∙ sym a.whole in
    (one_packet octets other packet (subst (λ (xs : List ℕ). Spells xs other) same b) a, same, sym contents.1)

-- what was written is the only packet that stands behind those octets, whatever octets follow it
pub only_packet : (before after more front rest : List ℕ) (packet other : PlainPacket) → Appends before packet after → after ++ more ≡ before ++ (front ++ rest) → Spells front other
    → (other ≡ packet) × (before ++ front ≡ after) × (rest ≡ more)
only_packet before after more front rest packet other h e b =
    let behind : h.octets ++ more ≡ front ++ rest =
    append_cancel_left before (h.octets ++ more) (front ++ rest) (sym (append_assoc before h.octets more) ∙ ap (λ (xs : List ℕ). xs ++ more) (sym h.whole) ∙ e) in
    let one = one_front h.octets more front rest packet other h.spells b behind in
    (one.0, ap (λ (xs : List ℕ). before ++ xs) one.1 ∙ sym h.whole, one.2)
