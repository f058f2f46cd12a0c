-- What an examination of octets finds, and where the parts of a request are in them.
use Rattle.std.specs.Prelude.{◌≡◌, ℕ, ◌+◌, ◌<◌, ◌≤◌, List, ◌++◌, length, take, map, Contains, Result, Ok}
use Rattle.httparse.specs.Ascii.{line_feed}
use Rattle.httparse.specs.Grammar.{RequestHead}
use Rattle.httparse.specs.Spans.{span_bytes, header_bytes, IsRequestAt, IsRequestWithin}
use Rattle.httparse.specs.declared.spans.HeaderSpan.{HeaderSpan}
use Rattle.httparse.specs.declared.spans.RequestSpans.{RequestSpans}
use Rattle.ilp_http.specs.Limits.{head_limit, message_limit}
use Rattle.ilp_http.specs.Request.{BeginsWithHead, HoldsRequest, EndsInHead, EndsInBody, IsRefused, body_length, length_by}
use Rattle.ilp_http.specs.declared.refusal.Refusal.{Refusal}
use Rattle.ilp_http.specs.declared.examination.Look.{Look}
use Rattle.ilp_http.specs.declared.examination.Look.TheVariants as Seen
use Rattle.ilp_http.specs.declared.examination.Layout.{Layout}
use Rattle.ilp_http.specs.declared.examination.Finding.{Finding}
use Rattle.ilp_http.specs.declared.examination.Finding.TheVariants.{Whole, InHead, InBody, Refused}

-- what the spans of a head announce
abbrev pub length_at : List ℕ → List HeaderSpan → RequestSpans → Result ℕ Refusal
length_at octets spans head = length_by (span_bytes octets head.method) (map (header_bytes octets) (take head.headers spans))

-- the spans are those of this head, whose body is whole
pub record IsLayoutAt (octets : List ℕ) (spans : List HeaderSpan) (layout : Layout) (head : RequestHead) (rest : List ℕ) : Type 0 where
  pub begins : BeginsWithHead octets head rest
  pub announced : body_length head ≡ Ok layout.body
  pub whole : layout.body ≤ length rest
  pub parsed : IsRequestAt (take head_limit octets) spans layout.head head
  pub within : IsRequestWithin (take head_limit octets) spans layout.head

abbrev pub IsLayoutOf : List ℕ → List HeaderSpan → Layout → Type 0
IsLayoutOf octets spans layout = (head : RequestHead) × (rest : List ℕ) × IsLayoutAt octets spans layout head rest

-- a line feed is among the octets
abbrev pub HasLineFeed : List ℕ → Type 0
HasLineFeed octets = Contains octets line_feed

-- what makes the octets a request has a line feed
abbrev pub TakesLineFeed : List ℕ → Type 0
TakesLineFeed octets = (more : List ℕ) → HoldsRequest (octets ++ more) → HasLineFeed more

-- the octets begin a head, and are no request before a line feed comes
pub record IsInHead (octets : List ℕ) : Type 0 where
  pub ends : EndsInHead octets
  pub takes_line_feed : TakesLineFeed octets

-- the octets have a head, and with those that follow are a request once they are so many
pub record IsInBody (octets : List ℕ) (whole : ℕ) : Type 0 where
  pub ends : EndsInBody octets
  pub below : (more : List ℕ) → length octets + length more < whole → EndsInBody (octets ++ more)
  pub reached : (more : List ℕ) → whole ≤ length octets + length more → HoldsRequest (octets ++ more)
  pub more : length octets < whole
  pub room : whole ≤ message_limit

-- the octets are refused so, whatever follows
abbrev pub StayRefused : List ℕ → Refusal → Type 0
StayRefused octets refusal = (more : List ℕ) → IsRefused (octets ++ more) refusal

-- what the octets are, with the spans of their head
abbrev pub IsExamined : List ℕ → List HeaderSpan → Finding → Type 0
IsExamined octets spans (Whole layout) = IsLayoutOf octets spans layout
IsExamined octets spans InHead = IsInHead octets
IsExamined octets spans (InBody whole) = IsInBody octets whole
IsExamined octets spans (Refused refusal) = StayRefused octets refusal

-- what the octets are
abbrev pub IsSeen : List ℕ → Look → Type 0
IsSeen octets Seen.Whole = HoldsRequest octets
IsSeen octets Seen.InHead = IsInHead octets
IsSeen octets (Seen.InBody whole) = IsInBody octets whole
IsSeen octets (Seen.Refused refusal) = StayRefused octets refusal
