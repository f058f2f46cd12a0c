use Rattle.std.proofs.Common.{ap, sym, ◌∙◌, refl, subst, rules, inl, inr, Some, None, ◌++◌, ◌∷◌, []}
use Rattle.std.specs.Prelude.{FitsSigned, Result, Ok, Err}
use Rattle.std.specs.Int.{w64}
use Rattle.std.proofs.lemmas.Int.{to_z-of_z}
use Rattle.ilp_book.specs.declared.calls.Outcome.{Outcome}
use Rattle.ilp_book.specs.declared.fault.NotOpen.{NotOpen}
use Rattle.ilp_workers.specs.Worker.{seat}
use Rattle.ilp_workers.specs.Pending.{told_order}
use Rattle.ilp_workers.specs.Forwarding.{IsAnsweredAt, late, record_of_end}
use Rattle.ilp_workers.proofs.Sessions.{ended_by}
use Rattle.ilp_workers.proofs.parts.Parts.end.Goals as goal

-- the hold was over
pub returns-in_default-clause-ended : goal.returns-in_default-clause-ended
returns-in_default-clause-ended g c =
    let o = told_order g.J.Naming.desk c.args.prepare.now in
    let later = c.now-later.result in
    let reply : Result Outcome NotOpen = Err c.in_default.field-0 in
    let fits : FitsSigned w64 later = search rules in
    let at : IsAnsweredAt o later c.args.prepare.now.held.number c.args.effect.now.answer c.args.self.now.receipt c.answer_shown-reply.new.receipt c.args.self.now.share c.answer_shown-reply.new.share reply =
    subst (λ t. IsAnsweredAt o t c.args.prepare.now.held.number c.args.effect.now.answer c.args.self.now.receipt c.answer_shown-reply.new.receipt c.args.self.now.share c.answer_shown-reply.new.share reply) (to_z-of_z w64 later fits) c.in_default.ensures in
    rw c.late.ensures
    (ended_by o c.args.prepare.now.held c.args.effect.now
    (seat c.args.self.now.share c.args.self.now.records.items (g.C.Clock.told c.args.self.now.clock) c.args.self.now.receipt (g.K.Keeper.told c.args.self.now.keeper))
    (seat c.answer_shown-reply.new.share c.args.self.now.records.items (g.C.Clock.told c.now-later.new.self) c.answer_shown-reply.new.receipt (g.K.Keeper.told c.args.self.now.keeper)) late None later reply c.now-later.ensures at refl (refl, refl) refl)

-- the hold ended otherwise than what came back says
pub returns-then-not-same-clause-ended : goal.returns-then-not-same-clause-ended
returns-then-not-same-clause-ended g c =
    let o = told_order g.J.Naming.desk c.args.prepare.now in
    let later = c.now-later.result in
    let reply : Result Outcome NotOpen = Ok c.in-Ok.outcome in
    let fits : FitsSigned w64 later = search rules in
    let at : IsAnsweredAt o later c.args.prepare.now.held.number c.args.effect.now.answer c.args.self.now.receipt c.answer_shown-reply.new.receipt c.args.self.now.share c.answer_shown-reply.new.share reply =
    subst (λ t. IsAnsweredAt o t c.args.prepare.now.held.number c.args.effect.now.answer c.args.self.now.receipt c.answer_shown-reply.new.receipt c.args.self.now.share c.answer_shown-reply.new.share reply) (to_z-of_z w64 later fits) c.in-Ok.ensures in
    rw c.late-then-not-same.ensures
    (ended_by o c.args.prepare.now.held c.args.effect.now
    (seat c.args.self.now.share c.args.self.now.records.items (g.C.Clock.told c.args.self.now.clock) c.args.self.now.receipt (g.K.Keeper.told c.args.self.now.keeper))
    (seat c.answer_shown-reply.new.share c.args.self.now.records.items (g.C.Clock.told c.now-later.new.self) c.answer_shown-reply.new.receipt (g.K.Keeper.told c.args.self.now.keeper)) late (Some c.end_of-entry.result.0) later reply c.now-later.ensures at
    (ap (λ r. Some r.0) (sym c.end_of-entry.ensures)) (inr ((λ e. c.if-not-same.ensures (ap (λ r. r.1) c.end_of-entry.ensures ∙ e)), (refl, refl))) refl)

-- the hold ended by what came back
pub returns-clause-ended : goal.returns-clause-ended
returns-clause-ended g c =
    let o = told_order g.J.Naming.desk c.args.prepare.now in
    let held = c.args.prepare.now.held in
    let later = c.now-later.result in
    let entry = c.end_of-entry.result.0 in
    let kept = c.args.self.now.records.items in
    let reply : Result Outcome NotOpen = Ok c.in-Ok.outcome in
    let fits : FitsSigned w64 later = search rules in
    let at : IsAnsweredAt o later held.number c.args.effect.now.answer c.args.self.now.receipt c.answer_shown-reply.new.receipt c.args.self.now.share c.answer_shown-reply.new.share reply =
    subst (λ t. IsAnsweredAt o t held.number c.args.effect.now.answer c.args.self.now.receipt c.answer_shown-reply.new.receipt c.args.self.now.share c.answer_shown-reply.new.share reply) (to_z-of_z w64 later fits) c.in-Ok.ensures in
    let told = c.record_of.ensures g.J.Naming.desk ∙ ap (λ ended. record_of_end o held ended entry) c.if-not-same.ensures in
    ended_by o held c.args.effect.now
    (seat c.args.self.now.share kept (g.C.Clock.told c.args.self.now.clock) c.args.self.now.receipt (g.K.Keeper.told c.args.self.now.keeper))
    (seat c.answer_shown-reply.new.share c.push_reserved.new.self.items (g.C.Clock.told c.now-later.new.self) c.answer_shown-reply.new.receipt (g.K.Keeper.told c.args.self.now.keeper)) _ (Some entry) later reply c.now-later.ensures at
    (ap (λ r. Some r.0) (sym c.end_of-entry.ensures)) (inl (ap (λ r. r.1) (sym c.end_of-entry.ensures) ∙ c.if-not-same.ensures, (refl, c.push_reserved.ensures.items ∙ ap (λ r. kept ++ r ∷ []) (told ∙ ap (λ r. record_of_end o held c.args.effect.now.ended r.0) c.end_of-entry.ensures)))) refl
