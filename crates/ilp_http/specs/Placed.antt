-- What an examination of octets finds, and where the body of a response is in them.
use Rattle.std.specs.Prelude.{◌≡◌, ◌⊎◌, ℕ, ◌+◌, ◌<◌, ◌≤◌, List, ◌++◌, length, drop, slice_range, Result, Ok, Err}
use Rattle.httparse.specs.Grammar.{ResponseHead, print_response, status_code}
use Rattle.httparse.specs.declared.spans.ResponseSpans.{ResponseSpans}
use Rattle.ilp_http.specs.Response.{BeginsWithStatus, framing_in, IsResponse, EndsShort, EndsOpen, IsBad, IsTooLong}
use Rattle.ilp_http.specs.declared.framing.Framing.{Framing}
use Rattle.ilp_http.specs.declared.response_octets.ResponseLayout.{ResponseLayout}
use Rattle.ilp_http.specs.declared.response_octets.ResponseFinding.{ResponseFinding}
use Rattle.ilp_http.specs.declared.response_octets.ResponseFinding.TheVariants.{Whole, Unfinished, ToEnd, Bad, TooLong}
use Rattle.ilp_http.specs.declared.response.ResponseFault.{ResponseFault}
use Rattle.ilp_http.specs.declared.buffer.TheConstants.{ROOM}
use Rattle.ilp_http.specs.declared.response.ResponseFault.TheVariants as Fault

-- the spans are those of a head that says this of its body
pub record IsHeadAt (octets : List ℕ) (spans : ResponseSpans) (body : Framing) (head : ResponseHead) : Type 0 where
  pub begins : BeginsWithStatus octets head (drop spans.len octets)
  pub framed : body ≡ framing_in head
  pub len_is : spans.len ≡ length (print_response head)
  pub code_is : spans.code ≡ status_code head

abbrev pub IsHeadOf : List ℕ → ResponseSpans → Framing → Type 0
IsHeadOf octets spans body = (head : ResponseHead) × IsHeadAt octets spans body head

-- the body lies in the octets
abbrev pub IsWithin : List ℕ → ResponseLayout → Type 0
IsWithin octets place = place.start + place.body ≤ length octets

-- these octets, which are all of an input, are the response whose body lies there in those
abbrev pub IsPlacedAt : List ℕ → List ℕ → ResponseLayout → Type 0
IsPlacedAt all octets place = IsResponse all place.code (slice_range octets place.start (place.start + place.body))

-- more octets are needed, and there is room for one
abbrev pub NeedsMore : List ℕ → ℕ → Type 0
NeedsMore octets least = (length octets < least) × (least ≤ ROOM)

-- with those that follow the octets are so while they are fewer than so many
abbrev pub StaysBelow : List ℕ → ℕ → (List ℕ → Type 0) → Type 0
StaysBelow octets least Is = (more : List ℕ) → length octets + length more < least → Is (octets ++ more)

-- what the octets are
abbrev pub IsFinding : List ℕ → ResponseFinding → Type 0
IsFinding octets (Whole place) = IsWithin octets place × ((more : List ℕ) → IsPlacedAt (octets ++ more) octets place)
IsFinding octets (Unfinished least) = NeedsMore octets least × StaysBelow octets least EndsShort
IsFinding octets (ToEnd place least) = NeedsMore octets least × StaysBelow octets least EndsOpen × (IsWithin octets place × IsPlacedAt octets octets place)
IsFinding octets Bad = (more : List ℕ) → IsBad (octets ++ more)
IsFinding octets TooLong = (more : List ℕ) → IsTooLong (octets ++ more)

-- what octets are that are all of an input
abbrev pub EndsAt : List ℕ → Result ResponseLayout ResponseFault → Type 0
EndsAt octets (Ok place) = IsPlacedAt octets octets place
EndsAt octets (Err Fault.Bad) = EndsShort octets ⊎ IsBad octets
EndsAt octets (Err Fault.TooLong) = IsTooLong octets
EndsAt octets (Err Fault.Failed) = ⊥
EndsAt octets (Err Fault.TooManyReads) = ⊥
