use Rattle.std.proofs.Common.{sym, ◌∙◌, subst}
use Rattle.ilp_rules.specs.Book.{PlainBook}
use Rattle.ilp_next_period.specs.NextPeriod.{HasLeft}
use Rattle.ilp_next_period.proofs.NextSteps.{next_is_lawful, next_left, no_room}
use Rattle.ilp_next_period.proofs.ending_period.EndingPeriod.take_next.Goals as goal

-- it may come next, since there is room
pub push-requires : goal.push-requires
push-requires g c = record {
  lawful = next_is_lawful c.args.self.now c.args.config.now c.args.now c.args.next.now c.args.entry c.requires.left.0 c.requires.left.1 c.requires.booked c.args.room c.requires.room
      (sym c.has_room.ensures ∙ c.if-not-has_room.false);
}

-- then one less is left
pub returns-clause-ok : goal.returns-clause-ok
returns-clause-ok g c = λ left has.
    subst (λ (made : PlainBook). HasLeft c.args.self.now c.args.config.now c.args.now made left) (sym c.in_ok-push.ensures.ok)
    (next_left c.args.self.now c.args.config.now c.args.now c.args.next.now c.args.entry left has c.requires.booked
    (next_is_lawful c.args.self.now c.args.config.now c.args.now c.args.next.now c.args.entry left has c.requires.booked c.args.room c.requires.room (sym c.has_room.ensures ∙ c.if-not-has_room.false)))

-- without room for it there is none for the head
pub returns-then-not-has_room-clause-err : goal.returns-then-not-has_room-clause-err
returns-then-not-has_room-clause-err g c =
    no_room c.args.self.now c.args.config.now c.args.now c.args.next.now c.args.entry c.requires.left.0 c.requires.left.1 c.requires.booked c.args.room c.requires.room
    (sym c.has_room.ensures ∙ c.if-not-has_room.true)
