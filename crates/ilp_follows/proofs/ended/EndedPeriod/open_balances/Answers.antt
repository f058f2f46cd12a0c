use Rattle.std.proofs.Common.{◌≡◌, ◌++◌, [], ℕ, List, Option, append-nil, append_assoc, option_map, ap, ap₂, sym, ◌∙◌, arith}
use Rattle.std.specs.List.{cons_option}
use Rattle.ilp_journal.specs.declared.entry.Entry.{Entry}
use Rattle.ilp_next_period.specs.NextPeriod.{next_credit, next_opening}
use Rattle.ilp_follows.specs.Follows.{booked_in_head, openings_of, settlement_on}
use Rattle.ilp_follows.proofs.Brought.{openings_more}
use Rattle.ilp_follows.proofs.ended.EndedPeriod.open_balances.Goals as goal

pub loop-place-init : goal.loop-place-init
loop-place-init c = sym (append-nil c.args.head.now.items)

pub loop-place-preserved : goal.loop-place-preserved
loop-place-preserved c =
    let book = c.args.self.now in
    let next = c.args.config.now in
    let n = c.loop-place.place in
    let before : List Entry = c.args.head.now.items in
    c.in_ok-push_some.ensures
    ∙ ap₂ (λ (xs : List Entry) (o : Option Entry). xs ++ cons_option o []) c.loop-place.invariant c.opening_at-entry.ensures
    ∙ append_assoc before (openings_of book next n) (cons_option (option_map (booked_in_head book) (next_opening book next n)) [])
    ∙ ap (λ (ys : List Entry). before ++ ys) (sym (openings_more book next n))

pub returns : goal.returns
returns c =
    c.loop-place.invariant
    ∙ ap (λ (n : ℕ). c.args.head.now.items ++ openings_of c.args.self.now c.args.config.now n) (omega (arith, c.loop-place-test.false, c.loop-place.auto.place-end, c.peers-place-end.ensures.count))
