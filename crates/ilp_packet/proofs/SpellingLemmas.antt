-- A packet has one spelling, and none goes on in another.
use Rattle.std.proofs.Common.{◌≡◌, ℕ, ◌<◌, List, [], ◌∷◌, ◌++◌, length, sym, ap, ◌∙◌, append_assoc, length-append, arith}
use Rattle.std.proofs.lemmas.List.{nil_from_length}
use Rattle.ilp_oer.specs.OctetString as oer
use Rattle.ilp_oer.proofs.Spellings.{prefix-unique}
use Rattle.ilp_terms.proofs.ExpiryLemmas.{same_expiry}
use Rattle.ilp_packet.specs.Packet.{PlainPacket, prepare, fulfill, reject, NamesExpiry, content, spelling, Spells, type_octet}
use Rattle.ilp_packet.proofs.ContentLemmas.{content_fits}

-- a packet's texts of its expiry spell it alike
one_text : (packet : PlainPacket) (a b : List ℕ) → NamesExpiry a packet → NamesExpiry b packet → a ≡ b
one_text (prepare p) a b h k = same_expiry a b h.0 k.0 (h.1 ∙ sym k.1)
one_text (fulfill f) a b h k = h ∙ sym k
one_text (reject r) a b h k = h ∙ sym k

pub one_spelling : (octets other : List ℕ) (packet : PlainPacket) → Spells octets packet → Spells other packet → octets ≡ other
one_spelling octets other packet a b =
    a.whole ∙ ap (λ (text : List ℕ). spelling text packet) (one_text packet a.expiry b.expiry a.names b.names) ∙ sym b.whole

-- an octet string does not go on in another
string_ends : (text more other : List ℕ) → length text < 65536 → length other < 65536 → oer.spelling text ++ more ≡ oer.spelling other → more ≡ []
string_ends text more other fits fits_other e =
    let same = prefix-unique (length text) (length other) (text ++ more) other fits fits_other (sym (append_assoc (oer.prefix (length text)) text more) ∙ e) in
    nil_from_length more (omega (arith, same.0, ap length same.1, length-append text more))

rest_same : (a b : ℕ) (xs ys : List ℕ) → a ∷ xs ≡ b ∷ ys → xs ≡ ys
rest_same a b xs ys e = cc

pub no_longer : (octets more : List ℕ) (packet other : PlainPacket) → Spells octets packet → Spells (octets ++ more) other → more ≡ []
no_longer octets more packet other a b =
    let whole : spelling a.expiry packet ++ more ≡ spelling b.expiry other = ap (λ (xs : List ℕ). xs ++ more) (sym a.whole) ∙ b.whole in
    string_ends (content a.expiry packet) more (content b.expiry other)
    (content_fits a.expiry packet a.names a.within) (content_fits b.expiry other b.names b.within)
    (rest_same (type_octet packet) (type_octet other) (oer.spelling (content a.expiry packet) ++ more) (oer.spelling (content b.expiry other)) whole)
