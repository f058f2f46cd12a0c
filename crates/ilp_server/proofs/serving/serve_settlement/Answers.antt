use Rattle.ilp_server.proofs.CreditLemmas.{whole_settlement}
use Rattle.ilp_server.proofs.serving.serve_settlement.Goals as goal

-- both halves
pub returns-clause-served : goal.returns-clause-served
returns-clause-served g c =
    whole_settlement g.J.Naming.desk c.args.peer c.args.request.now.headers c.args.request.now.body.now c.args.worker.now c.begin_settlement-course.new.worker c.end_credit.new.worker
    c.begin_settlement-course.result c.end_credit.result c.begin_settlement-course.ensures.begun c.end_credit.ensures.ended
