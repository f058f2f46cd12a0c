-- Turns go round.
use Rattle.std.proofs.Common.{◌≢◌, ℕ, ◌+◌, ◌^◌, ◌<◌, List, [], ◌∷◌, ◌++◌, length, ap, sym, arith}
use Rattle.std.specs.Prelude.{◌==◌, if◌then◌else◌}
use Rattle.std.proofs.lemmas.Bool.Decides.{nat_tests}
use Rattle.ilp_flow.specs.declared.passage.Passage.{Passage}
use Rattle.ilp_flow.specs.Flow.{last_turn, last_turn_from, IsNext, MayAnotherBegin, IsOfAnother}
use Rattle.ilp_flow.proofs.Counting.{last_turn_from_own, last_turn_from_other}

last_turn_from_within : (sender last n : ℕ) (begun : List Passage) → last < n → last_turn_from sender last n begun < n + length begun
last_turn_from_within sender last n [] within = omega (arith, within)
last_turn_from_within sender last n (p ∷ begun) within =
    let later = last_turn_from_within sender (if p.sender == sender then n else last) (n + 1) begun (grind (arith, nat_tests)) in omega (arith, later)

-- no sender's turn but its own is as late as the last
earlier : (sender : ℕ) (begun : List Passage) (last : Passage) → last.sender ≢ sender → length begun + 1 < 2 ^ 64 → last_turn sender (begun ++ last ∷ []) < last_turn last.sender (begun ++ last ∷ [])
earlier sender begun last differ few =
    let own = last_turn_from_own 0 1 begun last in
    let other = last_turn_from_other sender 0 1 begun last differ in
    let within = last_turn_from_within sender 0 1 begun (omega arith) in
    omega (arith, own, other, within, few)

pub turns_go_round : (most : ℕ) (flying begun waiting : List Passage) (last : Passage) (place : ℕ) → length begun + 1 < 2 ^ 64 → MayAnotherBegin most flying waiting last.sender → IsNext most flying (begun ++ last ∷ []) waiting place → IsOfAnother waiting place last.sender
turns_go_round most flying begun waiting last place few another next = record {
  passage = next.passage;
  stands = next.stands;
  another = λ same.
      let sooner = earlier another.passage.sender begun last (λ e. another.another (sym e)) few in
      let longest = next.longest another.place another.passage another.stands another.may in
      let turn = ap (λ (s : ℕ). last_turn s (begun ++ last ∷ [])) same in
      omega (arith, sooner, longest, turn);
}
