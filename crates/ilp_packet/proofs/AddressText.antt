-- Addresses are texts of ASCII.
use Rattle.std.proofs.Common.{◌≡◌, ℕ, ◌<◌, true, List, [], ◌∷◌, zero, suc, sym, subst, arith}
use Rattle.std.specs.Str.{IsAscii}
use Rattle.std.specs.List.{flat_map, list_all, AllByRecursion}
use Rattle.std.proofs.lemmas.Bool.Decides.{nat_tests}
use Rattle.std.proofs.lemmas.List.Concat.{flat_map-cons}
use Rattle.std.proofs.lemmas.List.Sums.{AllPass-from_list_all}
use Rattle.std.proofs.lemmas.Str.{IsAscii-append}
use Rattle.std.proofs.lemmas.Str.Ascii.{IsAscii-nil, IsAscii-from_all}
use Rattle.ilp_packet.specs.Address.{is_segment_octet, IsSegment, dotted, IsAddress}
use Rattle.ilp_packet.proofs.AddressLemmas.{scheme_allowed}

below : (octet : ℕ) → is_segment_octet octet ≡ true → octet < 128
below octet h = grind (arith, nat_tests)

allowed_are_ascii : (text : List ℕ) → list_all is_segment_octet text ≡ true → IsAscii text
allowed_are_ascii text h =
    IsAscii-from_all text (λ place octet found. below _ (AllPass-from_list_all is_segment_octet text h place octet found))

dot_is_ascii : IsAscii (46 ∷ [])
dot_is_ascii zero = omega arith
dot_is_ascii (suc place) = omega arith

segments_are_ascii : (segments : List (List ℕ)) → AllByRecursion IsSegment segments → IsAscii (flat_map dotted segments)
segments_are_ascii [] each = IsAscii-nil
segments_are_ascii (segment ∷ segments) each =
    subst IsAscii (sym (flat_map-cons dotted segment segments))
    (IsAscii-append (dotted segment) (flat_map dotted segments)
    (IsAscii-append (46 ∷ []) segment dot_is_ascii (allowed_are_ascii segment each.0.allowed)) (segments_are_ascii segments each.1))

pub address_is_ascii : (octets : List ℕ) → IsAddress octets → IsAscii octets
address_is_ascii octets h =
    subst IsAscii (sym h.whole)
    (IsAscii-append h.scheme (flat_map dotted h.segments) (allowed_are_ascii h.scheme (scheme_allowed h.scheme h.known)) (segments_are_ascii h.segments h.each))
