-- Addresses (RFC 0015): a scheme, and then segments, each behind a dot.
use Rattle.std.specs.Prelude.{◌≡◌, ℕ, ◌<◌, ◌≤◌, Bool, true, false, ◌&&◌, ◌||◌, ◌==◌, nat_le, if◌then◌else◌, List, [], ◌∷◌, ◌++◌, length, codes, bytes_eq, IsTrue, Contains}
use Rattle.std.specs.List.{list_any, list_all, flat_map, AllByRecursion, before_first, after_first}

-- the allocation schemes
abbrev pub schemes : List (List ℕ)
schemes =
    codes "g" ∷ codes "private" ∷ codes "example" ∷ codes "peer" ∷ codes "self"
    ∷ codes "test" ∷ codes "test1" ∷ codes "test2" ∷ codes "test3" ∷ codes "local" ∷ []

-- whether a segment may have this octet: a letter, a digit, `_`, `~` or `-`
abbrev pub is_segment_octet : ℕ → Bool
is_segment_octet octet =
    (nat_le 65 octet && nat_le octet 90) || (nat_le 97 octet && nat_le octet 122)
    || (nat_le 48 octet && nat_le octet 57) || (octet == 95) || (octet == 126) || (octet == 45)

-- one or more octets that a segment may have
pub record IsSegment (segment : List ℕ) : Type 0 where
  pub filled : 0 < length segment
  pub allowed : IsTrue (list_all is_segment_octet segment)

-- a segment behind its dot
abbrev pub dotted : List ℕ → List ℕ
dotted segment = 46 ∷ segment

-- the most octets of an address
abbrev pub most_address : ℕ
most_address = 1023

-- a scheme and then one or more segments, each behind a dot, in at most 1,023 octets
pub record IsAddress (octets : List ℕ) : Type 0 where
  pub scheme : List ℕ
  pub segments : List (List ℕ)
  pub known : Contains schemes scheme
  pub some : 0 < length segments
  pub each : AllByRecursion IsSegment segments
  pub whole : octets ≡ scheme ++ flat_map dotted segments
  pub within : length octets ≤ most_address

-- ---- whether octets are an address, as a test from left to right

-- whether a text is one of the schemes
unfoldable pub is_scheme : List ℕ → Bool
is_scheme text = list_any (λ scheme. bytes_eq scheme text) schemes

-- whether an octet is the dot
abbrev pub is_dot : ℕ → Bool
is_dot octet = octet == 46

-- whether octets end a list of segments, of which one is begun or not
abbrev pub are_segments : Bool → List ℕ → Bool
are_segments begun [] = begun
are_segments begun (octet ∷ octets) =
    if is_dot octet then begun && are_segments false octets
    else is_segment_octet octet && are_segments true octets

-- whether octets are an address
unfoldable pub is_address : List ℕ → Bool
is_address octets =
    nat_le (length octets) most_address
    && (is_scheme (before_first is_dot octets) && are_segments false (after_first is_dot octets))
