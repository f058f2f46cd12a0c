-- Octets that may become a request, and what they become with more behind them.
use Rattle.std.proofs.Common.{◌≡◌, ℕ, ◌+◌, ◌-◌, ◌<◌, ◌≤◌, List, [], ◌∷◌, ◌++◌, length, get_or, take, drop, sym, ap, ◌∙◌, subst, Ok, inl, inr, refl, arith, append_assoc, length-append, length-drop}
use Rattle.std.specs.Prelude.{nat_le}
use Rattle.std.proofs.Math.Seq.{get_or-append_seam}
use Rattle.std.proofs.lemmas.Bool.{cases_Bool, leb-true, leb-false}
use Rattle.std.proofs.lemmas.List.{take-append-drop, take-append-le, take_all, append-nil, length-take-le, get_or-append_right}
use Rattle.httparse.specs.Ascii.{line_feed, space}
use Rattle.httparse.specs.Grammar.{LineEnd, crlf, lf, print_end, print_blank, print_version, print_section, RequestHead, print_request, HasNoRequest, MayBecomeRequest}
use Rattle.httparse.proofs.GrammarLemmas.{print_request-append}
use Rattle.ilp_http.specs.Limits.{head_limit}
use Rattle.ilp_http.specs.Request.{BeginsWithHead, HoldsRequest, EndsInHead, EndsEarly, body_length}
use Rattle.ilp_http.specs.Layout.{HasLineFeed, TakesLineFeed, IsInHead, IsInBody}
use Rattle.ilp_http.proofs.HeadLemmas.{BeginsWithHead-append, small-body}

-- ---- a head ends in a line feed

-- the last octet is a line feed
abbrev EndsInLineFeed : List ℕ → Type 0
EndsInLineFeed octets = (front : List ℕ) × (octets ≡ front ++ line_feed ∷ [])

line_end : (end : LineEnd) → EndsInLineFeed (print_end end)
line_end crlf = (13 ∷ [], refl)
line_end lf = ([], refl)

behind_one : (x : ℕ) (xs : List ℕ) → EndsInLineFeed xs → EndsInLineFeed (x ∷ xs)
behind_one x xs ends = (x ∷ ends.0, ap (λ ys. x ∷ ys) ends.1)

behind : (xs ys : List ℕ) → EndsInLineFeed ys → EndsInLineFeed (xs ++ ys)
behind xs ys ends = (xs ++ ends.0, ap (λ zs. xs ++ zs) ends.1 ∙ sym (append_assoc xs ends.0 (line_feed ∷ [])))

head_end : (head : RequestHead) → EndsInLineFeed (print_request head)
head_end head =
    let section = print_section head.fields head.last in
    let end : EndsInLineFeed (section ++ []) = subst EndsInLineFeed (sym (append-nil section)) (behind _ (print_end head.last) (line_end head.last)) in
    let line = behind (print_version head.minor) _ (behind (print_end head.line_end) _ end) in
    let target = behind_one space _ (behind head.target _ (behind_one space _ line)) in
    let all = behind (print_blank head.blank) _ (behind head.method _ target) in
    subst EndsInLineFeed (sym (print_request-append head []) ∙ append-nil (print_request head)) all

-- a head that ends within the first octets is theirs
head_within : (octets more : List ℕ) (front rest : List ℕ) → octets ++ more ≡ front ++ rest → length front ≤ length octets
    → octets ≡ front ++ drop (length front) octets
head_within octets more front rest same within =
    let n = length front in
    let begun = sym (take-append-le n octets more within) ∙ ap (take n) same ∙ take-append-le n front rest (omega arith) ∙ take_all n front (omega arith) in
    sym (take-append-drop n octets) ∙ ap (λ xs. xs ++ drop n octets) begun

-- what ends past the first octets has its line feed in those that follow
line_feed_past : (octets more front rest : List ℕ) → octets ++ more ≡ front ++ rest → length octets < length front → EndsInLineFeed front
    → HasLineFeed more
line_feed_past octets more front rest same past ends =
    let at = length ends.0 in
    let size : length front ≡ at + 1 = ap length ends.1 ∙ length-append ends.0 (line_feed ∷ []) in
    let all = same ∙ ap (λ xs. xs ++ rest) ends.1 ∙ append_assoc ends.0 (line_feed ∷ []) rest in
    let sizes = ap length same in (
      at - length octets,
      omega (arith, sizes, length-append octets more, length-append front rest),
      sym (get_or-append_right octets more (length octets) at line_feed refl (omega arith))
          ∙ ap (λ (xs : List ℕ). get_or xs at line_feed) all ∙ get_or-append_seam ends.0 line_feed rest line_feed,
    )

-- octets that hold no head become a request by a line feed
line_feed_for_request : (octets more : List ℕ) → HasNoRequest octets → HoldsRequest (octets ++ more) → HasLineFeed more
line_feed_for_request octets more none holds =
    let front = print_request holds.0 in
    let reads = holds.3.begins.reads in
    elim (cases_Bool (nat_le (length front) (length octets))) [
      | inl within ↦ absurd (none holds.0 _ (reads.0, head_within octets more front (holds.1 ++ holds.2) reads.1 (leb-true (length front) (length octets) within)))
      | inr past ↦ line_feed_past octets more front (holds.1 ++ holds.2) reads.1 (leb-false (length front) (length octets) past) (head_end holds.0)
    ]

-- no octets are no head
pub TakesLineFeed-none : TakesLineFeed []
TakesLineFeed-none more =
    line_feed_for_request [] more (λ head rest reads.
    let end = head_end head in
    let front = print_request head in
    absurd (omega (arith, ap length reads.1, length-append front rest, ap length end.1, length-append end.0 (line_feed ∷ []))))

-- ---- octets that may become a request

-- a head has begun
pub in-head : (octets : List ℕ) → length octets < head_limit → HasNoRequest (take head_limit octets) → MayBecomeRequest (take head_limit octets) → IsInHead octets
in-head octets short none may_become =
    let all = take_all head_limit octets (omega arith) in
    let ends : EndsInHead octets = record { none = subst HasNoRequest all none; may_become = subst MayBecomeRequest all may_become; short = short } in
    record { ends = ends; takes_line_feed = λ more. line_feed_for_request octets more ends.none }

-- where less follows than one octet, what ends in a head still does
pub ends-in_head : (octets more : List ℕ) → IsInHead octets → length more < 1 → EndsEarly (octets ++ more)
ends-in_head octets [] at few = inl (subst EndsInHead (sym (append-nil octets)) at.ends)
ends-in_head octets (x ∷ xs) at few = absurd (omega arith)

-- a head is whole, and its body is not
pub in-body : (octets : List ℕ) (head : RequestHead) (len body : ℕ) → len ≡ length (print_request head) → BeginsWithHead octets head (drop len octets)
    → body_length head ≡ Ok body → length octets - len < body → IsInBody octets (len + body)
in-body octets head len body size begins announced part =
    let rest = drop len octets in
    let rest_size = length-drop len octets in
    let small = small-body head body announced in
    let fits : len ≤ length octets = omega (arith, ap length begins.reads.1, length-append (print_request head) rest) in
    record {
      ends = (head, rest, body, begins, announced, omega arith);
      below = λ more few. (
        head,
        rest ++ more,
        body,
        BeginsWithHead-append octets head rest more begins,
        announced,
        omega (arith, length-append rest more),
      );
      reached = λ more enough. holds_with octets head rest more body begins announced (omega (arith, length-append rest more));
      more = omega arith;
      room = omega (arith, begins.short);
    }
  where
    -- the body is the first octets after the head
    holds_with : (octets : List ℕ) (head : RequestHead) (rest more : List ℕ) (body : ℕ) → BeginsWithHead octets head rest → body_length head ≡ Ok body
        → body ≤ length (rest ++ more) → HoldsRequest (octets ++ more)
    holds_with octets head rest more body begins announced enough = (
      head,
      take body (rest ++ more),
      drop body (rest ++ more),
      record {
        begins = subst (BeginsWithHead (octets ++ more) head) (sym (take-append-drop body (rest ++ more))) (BeginsWithHead-append octets head rest more begins);
        announced = announced ∙ ap (λ n. Ok n) (sym (length-take-le body (rest ++ more) enough));
      },
    )
