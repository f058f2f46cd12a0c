use Rattle.std.proofs.Common.{◌≡◌, ◌++◌, [], ℕ, List, Option, append-nil, append_assoc, option_map, ap, ap₂, sym, ◌∙◌, arith}
use Rattle.std.specs.List.{cons_option}
use Rattle.ilp_journal.specs.declared.entry.Entry.{Entry}
use Rattle.ilp_next_period.specs.NextPeriod.{next_credit, next_opening}
use Rattle.ilp_follows.specs.Follows.{booked_in_head, settlement_on, settlements_of}
use Rattle.ilp_follows.proofs.Brought.{settlements_more}
use Rattle.ilp_follows.proofs.ended.EndedPeriod.bring_settlements.Goals as goal

pub loop-number-init : goal.loop-number-init
loop-number-init c = sym (append-nil c.args.head.now.items)

pub loop-number-preserved : goal.loop-number-preserved
loop-number-preserved c =
    let book = c.args.self.now in
    let next = c.args.config.now in
    let n = c.loop-number.number in
    let before : List Entry = c.args.head.now.items in
    c.in_ok-push_some.ensures
    ∙ ap₂ (λ (xs : List Entry) (o : Option Entry). xs ++ cons_option o []) c.loop-number.invariant c.in_ok-entry.ensures
    ∙ append_assoc before (settlements_of book next n) (cons_option (option_map (booked_in_head book) (settlement_on book next n)) [])
    ∙ ap (λ (ys : List Entry). before ++ ys) (sym (settlements_more book next n))

pub returns : goal.returns
returns c =
    c.loop-number.invariant
    ∙ ap (λ (n : ℕ). c.args.head.now.items ++ settlements_of c.args.self.now c.args.config.now n) (omega (arith, c.loop-number-test.false, c.loop-number.auto.number-end, c.len-number-end.ensures))
