use Rattle.std.proofs.Common.{refl, ap, ◌∙◌}
use Rattle.ilp_settlement.specs.Quantity.{quantity_text}
use Rattle.ilp_accounts.specs.Configuration.{Configuration}
use Rattle.ilp_book.specs.declared.calls.Kept.{Kept}
use Rattle.ilp_book.specs.Configured.{scale_at}
use Rattle.ilp_server.specs.declared.pending_credit.CreditCourse.TheVariants.{Waits}
use Rattle.ilp_server.proofs.CreditLemmas.{waits_for_payment}
use Rattle.ilp_server.proofs.serving.course_of_payment.Goals as goal

-- one that is booked waits with its answer
pub returns-in-Ok-clause-course : goal.returns-in-Ok-clause-course
returns-in-Ok-clause-course g c =
    let b = c.in-Ok.booked in
    let scale = c.scale.ensures ∙ ap (λ (C : Configuration). scale_at C c.args.peer) c.config.ensures in
    waits_for_payment g.J.Naming.desk c.args.peer c.args.quantity c.args.half b c.put_quantity.new.out c.new.result (Waits c.new.result) c.in-Ok.is
    (c.put_quantity.ensures.octets ∙ ap (λ (k : Kept). quantity_text k.amount c.scale.result) c.credit.ensures ∙ ap (quantity_text b.credit.amount) scale) c.new.ensures refl
