-- From what the parser says of the first octets to the response that they begin.
use Rattle.std.proofs.Common.{◌≡◌, ℕ, ◌+◌, ◌-◌, ◌<◌, ◌≤◌, List, [], ◌∷◌, ◌++◌, length, map, take, drop, sym, ap, ◌∙◌, subst, Err, inl, inr, arith, append_assoc, length-append, length-take, length-drop}
use Rattle.std.specs.Prelude.{slice_range, nat_le, cond, ⊤, codes}
use Rattle.std.specs.Str.Parse.{digits_value}
use Rattle.std.proofs.lemmas.Bool.{cond_both, leb-true}
use Rattle.std.proofs.lemmas.List.{take-append-drop, take-append-le, drop-append-le, length-map, take_all, append-nil, length-take-le}
use Rattle.httparse.specs.Grammar.{ResponseHead, print_response, ReadsResponse, HasNoResponse, NeverHasResponse, MayBecomeResponse}
use Rattle.httparse.specs.Spans.{header_bytes, name_and_value, IsResponseAt, IsResponseWithin, ResponseOverflows}
use Rattle.httparse.specs.declared.spans.HeaderSpan.{HeaderSpan}
use Rattle.httparse.specs.declared.spans.ResponseSpans.{ResponseSpans}
use Rattle.httparse.proofs.GrammarLemmas.{ReadsResponse-append}
use Rattle.ilp_http.specs.Limits.{head_limit, field_limit, body_limit}
use Rattle.ilp_http.specs.Framing.{framing, framing_by, length_of, is_number, values_named}
use Rattle.ilp_http.specs.Response.{BeginsWithStatus, HasBody, IsResponse, IsBad, IsTooLong, EndsShort, EndsOpen}
use Rattle.ilp_http.specs.Placed.{IsHeadOf, IsHeadAt, IsPlacedAt, EndsAt, StaysBelow}
use Rattle.ilp_http.specs.ResponseAnswer.{IsResponseFault}
use Rattle.ilp_http.specs.declared.framing.Framing.{Framing}
use Rattle.ilp_http.specs.declared.framing.Framing.TheVariants.{Coded, Unannounced, Octets, Unreadable, TooLong}
use Rattle.ilp_http.specs.declared.response_octets.ResponseLayout.{ResponseLayout}
use Rattle.ilp_http.specs.declared.response.ResponseFault.{ResponseFault}
use Rattle.ilp_http.proofs.FrontLemmas.{take_more_behind}

-- ---- a head that was found

-- the head that the parser found among the first octets begins all of them
pub head-found : (octets front : List ℕ) (spans : List HeaderSpan) (r : ResponseSpans) (body : Framing) (head : ResponseHead) → front ≡ take head_limit octets
    → length spans ≡ field_limit → IsResponseAt front spans r head → IsResponseWithin front spans r
    → body ≡ framing (map (header_bytes front) (take r.headers spans)) → IsHeadAt octets r body head
head-found octets front spans r body head cut room at within framed =
    let size = length-take head_limit octets in
    let counted = sym (length-map (take r.headers spans) (header_bytes front)) ∙ ap length at.fields ∙ length-map head.fields name_and_value in
    let short = ap length cut in
    let whole : front ++ drop head_limit octets ≡ octets = ap (λ xs. xs ++ drop head_limit octets) cut ∙ take-append-drop head_limit octets in
    record {
      begins = record {
        reads = (
          at.reads.0,
          sym whole ∙ ap (λ xs. xs ++ drop head_limit octets) at.reads.1
              ∙ append_assoc (print_response head) (drop r.len front) (drop head_limit octets)
              ∙ ap (λ xs. print_response head ++ xs) (sym (drop-append-le r.len front (drop head_limit octets) within.section.len_fits) ∙ ap (drop r.len) whole),
        );
        short = omega (arith, at.len, within.section.len_fits);
        few_fields = omega (arith, within.section.count_fits, length-take r.headers spans);
      };
      framed = framed ∙ ap framing at.fields;
      len_is = at.len;
      code_is = at.code;
    }

-- more octets follow
BeginsWithStatus-append : (octets : List ℕ) (head : ResponseHead) (rest more : List ℕ) → BeginsWithStatus octets head rest → BeginsWithStatus (octets ++ more) head (rest ++ more)
BeginsWithStatus-append octets head rest more begins = record {
  reads = ReadsResponse-append octets head rest more begins.reads;
  short = begins.short;
  few_fields = begins.few_fields;
}

-- a head lies in the octets that it begins
head-fits : (octets : List ℕ) (r : ResponseSpans) (body : Framing) (head : ResponseHead) → IsHeadAt octets r body head → r.len ≤ length octets
head-fits octets r body head at = omega (arith, ap length at.begins.reads.1, length-append (print_response head) (drop r.len octets), at.len_is)

pub head-within : (octets : List ℕ) (r : ResponseSpans) (body : Framing) → IsHeadOf octets r body → (r.len ≤ length octets) × (r.len ≤ head_limit)
head-within octets r body at = (head-fits octets r body at.0 at.1, omega (arith, at.1.begins.short, at.1.len_is))

-- an announced length is within its limit
IsSmall : Framing → Type 0
IsSmall Coded = ⊤
IsSmall Unannounced = ⊤
IsSmall (Octets n) = n ≤ body_limit
IsSmall Unreadable = ⊤
IsSmall TooLong = ⊤

small_of : (text : List ℕ) → IsSmall (length_of text)
unfolding IsSmall
small_of text =
    let n = digits_value 10 text in
    let inner : Framing = cond (nat_le n body_limit) (Octets n) TooLong in
    let bounded : IsSmall inner = cond_both (nat_le n body_limit) (Octets n) TooLong IsSmall (λ small. leb-true n body_limit small) (λ _. tt) in
    cond_both (is_number text) inner Unreadable IsSmall (λ _. bounded) (λ _. tt)

small_by : (codings lengths : List (List ℕ)) → IsSmall (framing_by codings lengths)
unfolding IsSmall
small_by (coding ∷ codings) lengths = tt
small_by [] [] = tt
small_by [] (text ∷ []) = small_of text
small_by [] (text ∷ other ∷ more) = tt

pub announced-small : (octets : List ℕ) (r : ResponseSpans) (n : ℕ) → IsHeadOf octets r (Octets n) → n ≤ body_limit
unfolding IsSmall
announced-small octets r n at =
    let fields = map name_and_value at.0.fields in
    subst IsSmall (sym at.1.framed) (small_by (values_named (codes "transfer-encoding") fields) (values_named (codes "content-length") fields))

-- ---- where the body is

-- the slice after the head
slice_after : (octets : List ℕ) (start n : ℕ) → slice_range octets start (start + n) ≡ take n (drop start octets)
slice_after octets start n = let size : (start + n) - start ≡ n = omega arith in ap (λ m. take m (drop start octets)) size

-- an empty body
pub placed-empty : (octets : List ℕ) (r : ResponseSpans) → IsHeadOf octets r Coded → (more : List ℕ) → IsResponse (octets ++ more) r.code (slice_range octets r.len (r.len + 0))
placed-empty octets r at more = (
  at.0,
  drop r.len octets ++ more,
  record {
    begins = BeginsWithStatus-append octets at.0 (drop r.len octets) more at.1.begins;
    code_is = at.1.code_is;
    body_is = subst (λ body. HasBody body (drop r.len octets ++ more) (slice_range octets r.len (r.len + 0))) at.1.framed (slice_after octets r.len 0);
  },
)

-- a body of a length that is announced
pub placed-announced : (octets : List ℕ) (r : ResponseSpans) (n : ℕ) → IsHeadOf octets r (Octets n) → n ≤ length octets - r.len
    → (more : List ℕ) → IsResponse (octets ++ more) r.code (slice_range octets r.len (r.len + n))
placed-announced octets r n at whole more =
    let rest = drop r.len octets in
    let size = length-drop r.len octets in
    let fits : n ≤ length rest = omega arith in
    let slice = slice_after octets r.len n in
    let counted : length (slice_range octets r.len (r.len + n)) ≡ n = ap length slice ∙ length-take-le n rest fits in
    let split : rest ++ more ≡ slice_range octets r.len (r.len + n) ++ (drop n rest ++ more) =
    ap (λ xs. xs ++ more) (sym (take-append-drop n rest)) ∙ append_assoc (take n rest) (drop n rest) more ∙ ap (λ (xs : List ℕ). xs ++ (drop n rest ++ more)) (sym slice) in (
      at.0,
      rest ++ more,
      record {
        begins = BeginsWithStatus-append octets at.0 rest more at.1.begins;
        code_is = at.1.code_is;
        body_is = subst (λ body. HasBody body (rest ++ more) (slice_range octets r.len (r.len + n))) at.1.framed (counted, drop n rest ++ more, split);
      },
    )

-- all octets to the end
pub placed-rest : (octets : List ℕ) (r : ResponseSpans) → IsHeadOf octets r Unannounced → length octets - r.len ≤ body_limit
    → IsResponse octets r.code (slice_range octets r.len (r.len + (length octets - r.len)))
placed-rest octets r at few =
    let rest = drop r.len octets in
    let size = length-drop r.len octets in
    let slice = slice_after octets r.len (length octets - r.len) ∙ take_all (length octets - r.len) rest (omega arith) in
    let small : length (slice_range octets r.len (r.len + (length octets - r.len))) ≤ body_limit = omega (arith, ap length slice) in (
      at.0,
      rest,
      record {
        begins = at.1.begins;
        code_is = at.1.code_is;
        body_is = subst (λ body. HasBody body rest (slice_range octets r.len (r.len + (length octets - r.len)))) at.1.framed (slice, small);
      },
    )

-- ---- octets that are no response

pub bad-length : (octets : List ℕ) (r : ResponseSpans) → IsHeadOf octets r Unreadable → (more : List ℕ) → IsBad (octets ++ more)
bad-length octets r at more = inr (at.0, drop r.len octets ++ more, BeginsWithStatus-append octets at.0 (drop r.len octets) more at.1.begins, sym at.1.framed)

pub long-length : (octets : List ℕ) (r : ResponseSpans) → IsHeadOf octets r TooLong → (more : List ℕ) → IsTooLong (octets ++ more)
long-length octets r at more = inr (inr (inl (at.0, drop r.len octets ++ more, BeginsWithStatus-append octets at.0 (drop r.len octets) more at.1.begins, sym at.1.framed)))

pub long-rest : (octets : List ℕ) (r : ResponseSpans) → IsHeadOf octets r Unannounced → body_limit < length octets - r.len → (more : List ℕ) → IsTooLong (octets ++ more)
long-rest octets r at many more =
    let rest = drop r.len octets in
    let size = length-drop r.len octets in
    inr (inr (inr (at.0, rest ++ more, BeginsWithStatus-append octets at.0 rest more at.1.begins, sym at.1.framed, omega (arith, length-append rest more))))

pub ends-in_content : (octets : List ℕ) (r : ResponseSpans) (n : ℕ) → IsHeadOf octets r (Octets n) → StaysBelow octets (r.len + n) EndsShort
ends-in_content octets r n at more few =
    let rest = drop r.len octets in
    let fits = head-fits octets r (Octets n) at.0 at.1 in
    inr (at.0, rest ++ more, n, BeginsWithStatus-append octets at.0 rest more at.1.begins, sym at.1.framed, omega (arith, length-append rest more, length-drop r.len octets))

-- a body of no announced length
pub ends-open : (octets : List ℕ) (r : ResponseSpans) → IsHeadOf octets r Unannounced → StaysBelow octets (r.len + body_limit + 1) EndsOpen
ends-open octets r at more few =
    let rest = drop r.len octets in
    let fits = head-fits octets r Unannounced at.0 at.1 in
    (at.0, rest ++ more, BeginsWithStatus-append octets at.0 rest more at.1.begins, sym at.1.framed, omega (arith, length-append rest more, length-drop r.len octets))

-- where less follows than one octet, what holds of the octets still does
none_follows : (Is : List ℕ → Type 0) (octets : List ℕ) → Is octets → StaysBelow octets (length octets + 1) Is
none_follows Is octets is [] few = subst Is (sym (append-nil octets)) is
none_follows Is octets is (x ∷ xs) few = absurd (omega arith)

-- what stays so for a while is so now
pub StaysBelow-now : (Is : List ℕ → Type 0) (octets : List ℕ) (least : ℕ) → length octets < least → StaysBelow octets least Is → Is octets
StaysBelow-now Is octets least part stays = subst Is (append-nil octets) (stays [] (omega arith))

pub ends-in_status : (octets : List ℕ) → length octets < head_limit → HasNoResponse (take head_limit octets) → MayBecomeResponse (take head_limit octets) → StaysBelow octets (length octets + 1) EndsShort
ends-in_status octets short none may_become =
    let all = take_all head_limit octets (omega arith) in
    none_follows EndsShort octets (inl (record { none = subst HasNoResponse all none; may_become = subst MayBecomeResponse all may_become; short = short }))

-- a whole head that has no room has too many fields
pub long-many : (octets front : List ℕ) (spans : List HeaderSpan) (r : ResponseSpans) (head : ResponseHead) → front ≡ take head_limit octets
    → IsResponseAt front spans r head → IsResponseWithin front spans r → ResponseOverflows field_limit front → (more : List ℕ) → IsTooLong (octets ++ more)
long-many octets front spans r head cut at within overflows more =
    let after = drop head_limit octets in
    let rest = drop r.len front in
    let whole : front ++ after ≡ octets = ap (λ xs. xs ++ after) cut ∙ take-append-drop head_limit octets in
    let reads = ReadsResponse-append (front ++ after) head (rest ++ after) more (ReadsResponse-append front head rest after at.reads) in
    let many = overflows [] head (rest ++ []) (ReadsResponse-append front head rest [] at.reads) in
    inr (inl (
      head,
      (rest ++ after) ++ more,
      subst (λ xs. ReadsResponse (xs ++ more) head ((rest ++ after) ++ more)) whole reads,
      omega (arith, at.len, within.section.len_fits, ap length cut, length-take head_limit octets),
      many,
    ))

pub long-status : (octets : List ℕ) → head_limit ≤ length octets → HasNoResponse (take head_limit octets) → MayBecomeResponse (take head_limit octets) → (more : List ℕ) → IsTooLong (octets ++ more)
long-status octets long none may_become more =
    let same = sym (take-append-le head_limit octets more long) in
    inl (record {
      long = omega (arith, length-append octets more);
      none = subst HasNoResponse same none;
      may_become = subst MayBecomeResponse same may_become;
    })

pub bad-never : (octets : List ℕ) → NeverHasResponse (take head_limit octets) → (more : List ℕ) → IsBad (octets ++ more)
bad-never octets never more =
    let front = take head_limit octets in
    let behind = take (head_limit - length octets) more in
    inl (λ after head rest reads.
    never (behind ++ after) head rest
    (reads.0, sym (ap (λ xs. xs ++ after) (take_more_behind head_limit octets more) ∙ append_assoc front behind after) ∙ reads.1))

-- ---- at the end of the input

-- what holds whatever follows, holds where nothing does
pub IsPlacedAt-now : (octets : List ℕ) (place : ResponseLayout) → ((more : List ℕ) → IsPlacedAt (octets ++ more) octets place) → IsPlacedAt octets octets place
IsPlacedAt-now octets place holds = subst (λ all. IsPlacedAt all octets place) (append-nil octets) (holds [])

pub IsBad-now : (octets : List ℕ) → ((more : List ℕ) → IsBad (octets ++ more)) → IsBad octets
IsBad-now octets holds = subst IsBad (append-nil octets) (holds [])

pub IsTooLong-now : (octets : List ℕ) → ((more : List ℕ) → IsTooLong (octets ++ more)) → IsTooLong octets
IsTooLong-now octets holds = subst IsTooLong (append-nil octets) (holds [])

pub IsResponseFault-at_end : (octets : List ℕ) (fault : ResponseFault) → EndsAt octets (Err fault) → IsResponseFault octets fault
IsResponseFault-at_end octets ResponseFault.Bad ends = ends
IsResponseFault-at_end octets ResponseFault.TooLong ends = ends
IsResponseFault-at_end octets ResponseFault.Failed ends = absurd ends
IsResponseFault-at_end octets ResponseFault.TooManyReads ends = absurd ends
