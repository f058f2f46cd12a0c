-- Octet strings: the prefix of a length, and then that many octets of content.
use Rattle.std.specs.Prelude.{◌≡◌, ℕ, ◌+◌, ◌-◌, ◌*◌, ◌/◌, ◌%◌, ◌<◌, List, [], ◌∷◌, ◌++◌, length, nat_lt, nat_le, ◌==◌, if◌then◌else◌, slice_index, Option, None, Some}
use Rattle.ilp_oer.specs.declared.fault.OerFault.{OerFault}
use Rattle.ilp_oer.specs.declared.fault.OerFault.TheVariants.{Truncated, BadPrefix, TooLong}

-- the prefix of a length: itself below 128, else the number of its octets above 128 and these, greatest first
abbrev pub prefix : ℕ → List ℕ
prefix n =
    if nat_lt n 128 then n ∷ []
    else (if nat_lt n 256 then 129 ∷ n ∷ []
    else 130 ∷ n / 256 ∷ n % 256 ∷ [])

-- the one spelling of a content of at most 65,535 octets
abbrev pub spelling : List ℕ → List ℕ
spelling content = prefix (length content) ++ content

-- the input is the spelling of the content, and then the rest
pub record Splits (input content rest : List ℕ) : Type 0 where
  pub within : length content < 65536
  pub whole : input ≡ spelling content ++ rest

-- the input begins with the spelling of some content
abbrev pub BeginsWithSpelling : List ℕ → Type 0
BeginsWithSpelling input = (content : List ℕ) × (rest : List ℕ) × Splits input content rest

-- how many octets tell the length, by the first of them
abbrev pub prefix_len : ℕ → ℕ
prefix_len first = if nat_lt first 128 then 1 else first - 127

-- the length that they tell
abbrev pub told_len : List ℕ → ℕ
told_len input =
    let first = slice_index input 0 in
    if nat_lt first 128 then first
    else (if first == 129 then slice_index input 1
    else 256 * slice_index input 1 + slice_index input 2)

-- the least length that so many octets may tell
abbrev pub least_told : ℕ → ℕ
least_told first = if nat_lt first 128 then 0 else (if first == 129 then 128 else 256)

-- the first fault of an input, in their order; none where it begins with a spelling
abbrev pub fault_of : List ℕ → Option OerFault
fault_of input =
    let first = slice_index input 0 in
    if length input == 0 then Some Truncated
    else (if first == 128 then Some BadPrefix
    else (if nat_le 131 first then Some TooLong
    else (if nat_lt (length input) (prefix_len first) then Some Truncated
    else (if nat_lt (told_len input) (least_told first) then Some BadPrefix
    else (if nat_lt (length input) (prefix_len first + told_len input) then Some Truncated
    else None)))))
