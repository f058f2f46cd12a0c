use Rattle.std.proofs.Common.{rules, ◌≡◌, ◌+◌, length, MatchOption, ℕ, Option, Some, slice_get, get_or, slice_index_or, ap, sym, ◌∙◌, subst, arith}
use Rattle.std.specs.Prelude.{option_map}
use Rattle.std.proofs.lemmas.Option.{slice_get-get_or}
use Rattle.ilp_flow.specs.declared.waiter.Waiter.{Waiter}
use Rattle.ilp_flow.specs.declared.waiter.Waiter.TheVariants.{Lingers, Whole}
use Rattle.ilp_flow.specs.Closing.{IsOfMost, whole_of}
use Rattle.ilp_flow.specs.Fullest.{HasNoWhole, IsFullestOf}
use Rattle.ilp_flow.specs.declared.closing.Fullest.{Fullest}
use Rattle.ilp_flow.proofs.Most.{passed_over, taken_up, over}
use Rattle.ilp_flow.proofs.closing.newest_of_most.Goals as goal
use Rattle.ilp_flow.proofs.closing.newest_of_most.Goals.{in-Whole, in_default}

pub loop-place-preserved : goal.loop-place-preserved
loop-place-preserved c =
    let waiters = c.args.waiters.now in
    let n = c.loop-place.place in
    let at : slice_get waiters n ≡ Some (get_or waiters n Lingers) = slice_get-get_or waiters n Lingers c.loop-place-test.true in
    elim c.match-waiter.branch [
      | in-Whole w ↦
          let sender : ℕ = w.in-Whole.sender in
          let whole : slice_get waiters n ≡ Some (Whole sender) = at ∙ ap (λ (it : Waiter). Some it) w.in-Whole.is in
          let count : ℕ = slice_index_or c.args.counts.now sender 0 in
          let counted : count ≡ whole_of sender waiters = c.requires.counted sender (c.requires.known n sender whole) in
          let taken = taken_up waiters n sender count c.loop-place.fullest whole counted c.loop-place.invariant in
          subst (IsFullestOf waiters (n + 1)) (sym (w.fullest-is ∙ w.fuller-fullest.ensures)) taken
      | in_default w ↦
          let passed = passed_over waiters n (get_or waiters n Lingers) c.loop-place.fullest at w.in_default.not-Whole c.loop-place.invariant in
          subst (IsFullestOf waiters (n + 1)) (sym w.fullest-is) passed
    ]

pub returns : goal.returns
returns c =
    let waiters = c.args.waiters.now in
    let all : c.loop-place.place ≡ length waiters = omega arith in
    let whole = over waiters c.loop-place.fullest (subst (λ (n : ℕ). IsFullestOf waiters n c.loop-place.fullest) all c.loop-place.invariant) in
    let mapped : c.map.result ≡ option_map (λ (f : Fullest). f.place) c.loop-place.fullest = search rules in
    subst (λ (it : Option ℕ). MatchOption it (HasNoWhole waiters) (IsOfMost waiters)) (sym mapped) whole
