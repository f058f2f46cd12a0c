use Rattle.std.proofs.Common.{refl, ap, ◌∙◌}
use Rattle.ilp_book.specs.declared.calls.Kept.{Kept}
use Rattle.ilp_book.specs.Configured.{scale_at}
use Rattle.ilp_server.specs.declared.pending_credit.CreditCourse.TheVariants.{Waits}
use Rattle.ilp_server.specs.Corrections.{moved_by, change_text}
use Rattle.ilp_server.proofs.CreditLemmas.{waits_for_change}
use Rattle.ilp_server.proofs.correcting.course_of_change.Goals as goal

-- one that is booked waits with its answer
pub returns-in-Ok-clause-course : goal.returns-in-Ok-clause-course
returns-in-Ok-clause-course g c =
    let lowers = c.args.correction.now.lowers in
    let scale = scale_at g.J.Naming.desk.config c.args.peer in
    waits_for_change g.J.Naming.desk c.args.peer c.args.correction.now c.args.half c.in-Ok.booked c.change_of-told.result c.change_answer-text.result c.new.result (Waits c.new.result) c.in-Ok.is
    c.change_of-told.ensures (c.change_answer-text.ensures ∙ ap (λ (k : Kept). change_text (moved_by lowers k.amount) scale) c.credit.ensures) c.new.ensures refl
