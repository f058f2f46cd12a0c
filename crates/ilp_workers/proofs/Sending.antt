-- The packet that is handed on.
use Rattle.std.proofs.Common.{◌≡◌, ℕ, List, [], ◌++◌, length, sym, ap, ◌∙◌, subst, refl}
use Rattle.ilp_packet.specs.Packet.{PlainPacket, PlainPrepare, prepare, content, Spells}
use Rattle.ilp_packet.specs.Writing.{seventeen_zeros, size, Appends}
use Rattle.ilp_packet.proofs.ContentLemmas.{length-prepare}
use Rattle.ilp_packet.proofs.WritingLemmas.{size_by_content}
use Rattle.ilp_book.specs.declared.calls.Held.{Held}
use Rattle.ilp_workers.specs.Forwarding.{onward}

-- what was written behind nothing is all that is there
pub written_alone : (before after : List ℕ) (packet : PlainPacket) → before ≡ [] → Appends before packet after → Spells after packet
written_alone before after packet none a =
    subst (λ octets. Spells octets packet) (sym (a.whole ∙ ap (λ xs. xs ++ a.octets) none)) a.spells

-- The Prepare that is handed on is as long as the one that came.
pub onward_size : (packet : PlainPrepare) (held : Held) → length packet.condition ≡ 32 → size (prepare (onward packet held)) ≡ size (prepare packet)
onward_size packet held condition =
    let text = seventeen_zeros in
    let same : length (content text (prepare (onward packet held))) ≡ length (content text (prepare packet)) =
    length-prepare text (onward packet held) refl condition ∙ sym (length-prepare text packet refl condition) in
    size_by_content (prepare (onward packet held)) (length (content text (prepare packet))) (sym same)
    ∙ sym (size_by_content (prepare packet) (length (content text (prepare packet))) refl)
