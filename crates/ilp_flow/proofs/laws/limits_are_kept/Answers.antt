use Rattle.ilp_flow.proofs.Limits.{none_is_within, kept_at_begin, kept_at_end}
use Rattle.ilp_flow.proofs.laws.limits_are_kept.Goals as goal

pub returns-clause-at_first : goal.returns-clause-at_first
returns-clause-at_first c = none_is_within

pub returns-clause-as_one_begins : goal.returns-clause-as_one_begins
returns-clause-as_one_begins c = kept_at_begin

pub returns-clause-as_one_ends : goal.returns-clause-as_one_ends
returns-clause-as_one_ends c = kept_at_end
