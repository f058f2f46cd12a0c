use Rattle.std.proofs.Common.{sym, subst}
use Rattle.ilp_server.specs.declared.pending_credit.CreditCourse.{CreditCourse}
use Rattle.ilp_server.specs.CreditHalves.{IsEndedAs}
use Rattle.ilp_server.proofs.serving.end_credit.Goals as goal

-- what waited has the outcome of what the keeper said
pub returns-in-Waits-clause-ended : goal.returns-in-Waits-clause-ended
returns-in-Waits-clause-ended g c =
    subst (λ (x : CreditCourse g.row.J.Denot). IsEndedAs x c.args.worker.now c.keep-handed.new.self c.outcome.result) (sym c.in-Waits.is)
    (c.keep-handed.result.said, c.keep-handed.ensures.kept, c.outcome.ensures.outcome)
