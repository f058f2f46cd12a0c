use Rattle.ilp_flow.proofs.Limits.{one_may_begin}
use Rattle.ilp_flow.proofs.laws.one_may_begin.Goals as goal

pub returns : goal.returns
returns c = one_may_begin
