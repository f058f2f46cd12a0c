use Rattle.ilp_workers.proofs.worker.Worker.keep_for.Goals as goal

-- what the keeper said, whatever it was
pub returns-in-None-clause-kept : goal.returns-in-None-clause-kept
returns-in-None-clause-kept g c = rw c.in-None.is (c.keep.result.said, c.keep.ensures.kept)
