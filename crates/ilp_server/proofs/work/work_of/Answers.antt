use Rattle.ilp_server.proofs.BodyLemmas.{short_body}
use Rattle.ilp_server.proofs.work.work_of.Goals as goal

-- the body of a request that was read is short
pub work_for-requires : goal.work_for-requires
work_for-requires c = record { short = short_body c.in-Ok.ensures.begun.0 c.in-Ok.request c.in-Ok.ensures.begun.1 }
