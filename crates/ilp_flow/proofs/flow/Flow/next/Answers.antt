use Rattle.std.proofs.Common.{rules, ◌≡◌, ℕ, ◌+◌, length, Some, slice_get, get_or, subst, sym, ◌∙◌, arith}
use Rattle.std.specs.Prelude.{option_map, vec_len}
use Rattle.std.proofs.lemmas.Option.{slice_get-get_or, slice_get_read}
use Rattle.ilp_flow.specs.declared.passage.Passage.{Passage}
use Rattle.ilp_flow.specs.declared.flow.Turn.{Turn}
use Rattle.ilp_flow.specs.Flow.{MayBegin, BeginsNext}
use Rattle.ilp_flow.specs.Counts.{IsBest, IsOf}
use Rattle.ilp_flow.proofs.Turns.{IsWilling, passed_over, taken_up, over}
use Rattle.ilp_flow.proofs.flow.Flow.next.Goals as goal
use Rattle.ilp_flow.proofs.flow.Flow.next.Goals.{then-may_begin, else-may_begin}

pub loop-place-preserved : goal.loop-place-preserved
loop-place-preserved c flying begun counts =
    let most = c.args.self.now.most in
    let waiting = c.args.waiting.now in
    let n = c.loop-place.place in
    let d : Passage = record { sender = 0; receiver = 0; octets = 0 } in
    let p : Passage = get_or waiting n d in
    let at : slice_get waiting n ≡ Some p = slice_get-get_or waiting n d c.loop-place-test.true in
    let before : IsBest most flying begun waiting n c.loop-place.best = c.loop-place.invariant flying begun counts in
    elim c.if-may_begin.branch [
      | then-may_begin w ↦
          let may : MayBegin most flying p = w.if-may_begin.ensures flying begun counts in
          let known = c.requires.known n p at in
          let long : vec_len c.args.self.now.senders ≡ length c.args.self.now.senders.items = search rules in
          let stands = slice_get_read c.args.self.now.senders.items _ p.sender w.index.result.now long known.0 w.index.ensures in
          let of : IsOf p.sender w.index.result.now flying begun = counts.of_senders p.sender w.index.result.now stands in
          let willing : IsWilling most flying begun waiting n w.index.result.now.turn p = record { at = at; may = may; turn_is = of.turn } in
          let taken = taken_up most flying begun waiting n w.index.result.now.turn p c.loop-place.best willing before in
          subst (IsBest most flying begun waiting (n + 1)) (sym (w.best-is ∙ w.sooner-best.ensures)) taken
      | else-may_begin w ↦
          let may_not : ¬ MayBegin most flying p = w.if-may_begin.ensures flying begun counts in
          let passed = passed_over most flying begun waiting n p c.loop-place.best (record { at = at; may_not = may_not }) before in
          subst (IsBest most flying begun waiting (n + 1)) (sym w.best-is) passed
    ]

pub returns : goal.returns
returns c flying begun counts =
    let most = c.args.self.now.most in
    let waiting = c.args.waiting.now in
    let n = c.loop-place.place in
    let all : n ≡ length waiting = omega arith in
    let best : IsBest most flying begun waiting n c.loop-place.best = c.loop-place.invariant flying begun counts in
    let whole = over most flying begun waiting c.loop-place.best (subst (λ (k : ℕ). IsBest most flying begun waiting k c.loop-place.best) all best) in
    let mapped : c.map.result ≡ option_map (λ (t : Turn). t.place) c.loop-place.best = search rules in
    subst (BeginsNext most flying begun waiting) (sym mapped) whole
