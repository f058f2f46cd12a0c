use Rattle.ilp_warnings.proofs.Keeping.{on_ok}
use Rattle.ilp_warnings.proofs.peers.tell_token.Goals as goal

pub returns-clause-kept : goal.returns-clause-kept
returns-clause-kept c = on_ok c.tell-2.result (λ k w has. k w (c.in_ok-tell.ensures.kept w has)) c.tell-2.ensures.kept
