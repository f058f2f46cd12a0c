-- An octet string that is read is the one that is spelled, and what is spelled is read.
use Rattle.std.proofs.Common.{◌≡◌, ℕ, ◌<◌, List, ◌++◌, length, take, drop, Option, Some, None, Result, Ok, refl, sym, ap, subst, ◌∙◌, append_assoc, arith}
use Rattle.std.specs.Prelude.{slice_index}
use Rattle.std.proofs.lemmas.Bool.Decides.{nat_tests}
use Rattle.std.proofs.lemmas.List.{take_at, drop_at}
use Rattle.ilp_order.proofs.RefusalLemmas.{ok_same}
use Rattle.ilp_oer.specs.OctetString.{prefix, prefix_len, told_len, Splits}
use Rattle.ilp_oer.specs.OctetString as oer
use Rattle.ilp_oer.specs.declared.fault.OerFault.{OerFault}
use Rattle.ilp_oer.proofs.Spellings.{fault_of-split, told_len-prefix}
use Rattle.ilp_oer.proofs.Faults.{BeginsWithSpelling-faultless}
use Rattle.ilp_packet.specs.declared.fault.PacketFault.{PacketFault}
use Rattle.ilp_packet.specs.Reading.{AreOctets, string_unless, string_at}
use Rattle.ilp_packet.proofs.TakingLemmas.{Takes, AreOctets-rest}

-- a field that was read
abbrev string_found : List ℕ × List ℕ → Result (List ℕ × List ℕ) PacketFault
string_found field = Ok field

-- the octets after a prefix
abbrev after_prefix : List ℕ → List ℕ
after_prefix octets = drop (prefix_len (slice_index octets 0)) octets

-- the length and the rest of octets that begin with a prefix
told_len-spelled : (n : ℕ) (more : List ℕ) → n < 65536 → (told_len (prefix n ++ more) ≡ n) × (after_prefix (prefix n ++ more) ≡ more)
told_len-spelled n more fits = (told_len-prefix n more fits, grind (arith, nat_tests))

pub string_at-splits : (octets content rest : List ℕ) → Splits octets content rest → string_at octets ≡ Ok (content, rest)
unfolding string_at
string_at-splits octets content rest h =
    let none = fault_of-split octets content rest h in
    let grouped : octets ≡ prefix (length content) ++ (content ++ rest) = h.whole ∙ append_assoc (prefix (length content)) content rest in
    let told = told_len-spelled (length content) (content ++ rest) h.within in
    let len : told_len octets ≡ length content = ap told_len grouped ∙ told.0 in
    let after : after_prefix octets ≡ content ++ rest = ap after_prefix grouped ∙ told.1 in
    ap (λ (f : Option OerFault). string_unless f octets) none
    ∙ ap (λ (xs : List ℕ). string_found (take (told_len octets) xs, drop (told_len octets) xs)) after
    ∙ ap (λ (n : ℕ). string_found (take n (content ++ rest), drop n (content ++ rest))) len
    ∙ rw (take_at content rest (length content) refl, drop_at content rest (length content) refl) refl

-- where an octet string is read, no fault is
none_found : (found : Option OerFault) (octets : List ℕ) (field : List ℕ × List ℕ) → string_unless found octets ≡ Ok field → found ≡ None
none_found None octets field e = refl
none_found (Some fault) octets field e = absurd cc

no_fault : (octets : List ℕ) (field : List ℕ × List ℕ) → string_at octets ≡ Ok field → oer.fault_of octets ≡ None
unfolding string_at
no_fault octets field e = none_found (oer.fault_of octets) octets field e

pub string_takes : (octets : List ℕ) (field : List ℕ × List ℕ) → AreOctets octets → string_at octets ≡ Ok field
    → Takes octets (oer.spelling field.0) field.1 × (length field.0 < 65536)
string_takes octets field fits e =
    let found = BeginsWithSpelling-faultless octets fits (no_fault octets field e) in
    let split = found.2 in
    let same : (found.0, found.1) ≡ field = ok_same (found.0, found.1) field (sym (string_at-splits octets found.0 found.1 split) ∙ e) in
    subst (λ (f : List ℕ × List ℕ). Takes octets (oer.spelling f.0) f.1 × (length f.0 < 65536)) same
    (record { parts = split.whole; rest_fits = AreOctets-rest octets (oer.spelling found.0) found.1 fits split.whole }, split.within)

pub string_again : (content rest : List ℕ) → length content < 65536 → string_at (oer.spelling content ++ rest) ≡ Ok (content, rest)
string_again content rest fits =
    string_at-splits (oer.spelling content ++ rest) content rest (record { within = fits; whole = refl })
