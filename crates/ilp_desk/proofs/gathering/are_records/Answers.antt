use Rattle.std.proofs.Common.{◌+◌, ◌∙◌, sym, ap, ◌++◌, List, take, arith}
use Rattle.ilp_desk.specs.declared.record.Record.{Record}
use Rattle.ilp_desk.specs.Records.{actor_records}
use Rattle.ilp_desk.proofs.Walks.{records_none, walks, has_next, one_more}
use Rattle.ilp_desk.proofs.gathering.are_records.Goals as goal

pub loop-number-preserved-in_default : goal.loop-number-preserved-in_default
loop-number-preserved-in_default c = (
  c.loop-number.invariant.0,
  c.loop-number.invariant.1
      ∙ ap (λ (rs : List Record). take c.loop-number.next c.args.kept.now ++ rs) (records_none c.args.book.now.entries c.args.actor c.loop-number.number (omega (arith, c.len-number-end.ensures)) (sym c.record_by.ensures ∙ c.in_default.is)),
)

pub returns-then-not-stands : goal.returns-then-not-stands
returns-then-not-stands c =
    let all = actor_records c.args.book.now.entries c.args.book.now.base c.args.actor in
    let walked = walks c.args.book.now.entries c.args.kept.now all c.args.actor c.loop-number.next c.loop-number.number c.in-Some.record c.loop-number.invariant.1 (omega (arith, c.len-number-end.ensures)) (sym c.record_by.ensures ∙ c.in-Some.is) in
    has_next c.args.kept.now all (actor_records c.args.book.now.entries (c.loop-number.number + 1) c.args.actor) c.loop-number.next c.in-Some.record c.loop-number.invariant.0 walked c.if-not-stands.ensures

pub loop-number-preserved : goal.loop-number-preserved
loop-number-preserved c =
    let all = actor_records c.args.book.now.entries c.args.book.now.base c.args.actor in
    let walked = walks c.args.book.now.entries c.args.kept.now all c.args.actor c.loop-number.next c.loop-number.number c.in-Some.record c.loop-number.invariant.1 (omega (arith, c.len-number-end.ensures)) (sym c.record_by.ensures ∙ c.in-Some.is) in
    one_more c.args.kept.now all (actor_records c.args.book.now.entries (c.loop-number.number + 1) c.args.actor) c.loop-number.next c.in-Some.record c.loop-number.invariant.0 walked c.if-not-stands.ensures
