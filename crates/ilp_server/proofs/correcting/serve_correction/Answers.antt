use Rattle.ilp_server.proofs.CreditLemmas.{whole_correction}
use Rattle.ilp_server.proofs.correcting.serve_correction.Goals as goal

-- both halves
pub returns-clause-served : goal.returns-clause-served
returns-clause-served g c =
    whole_correction g.J.Naming.desk c.args.peer c.args.request.now.headers c.args.request.now.body.now c.args.worker.now c.begin_correction-course.new.worker c.end_credit.new.worker
    c.begin_correction-course.result c.end_credit.result c.begin_correction-course.ensures.begun c.end_credit.ensures.ended
