use Rattle.ilp_replies.proofs.Rejecting.{local_reject_is_short, longest_reject}
use Rattle.ilp_replies.proofs.laws.local_rejects_are_short.Goals as goal

pub returns-clause-within : goal.returns-clause-within
returns-clause-within c = local_reject_is_short

pub returns-clause-reached : goal.returns-clause-reached
returns-clause-reached c = longest_reject
