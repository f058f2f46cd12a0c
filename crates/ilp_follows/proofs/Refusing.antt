-- A fault of reading is why a text is not followed.
use Rattle.std.proofs.Common.{ℕ, List}
use Rattle.ilp_accounts.specs.Configuration.{Configuration}
use Rattle.ilp_next_period.specs.declared.forward_fault.ForwardFault.{ForwardFault}
use Rattle.ilp_follows.specs.declared.fault.FollowFault.{FollowFault}
use Rattle.ilp_follows.specs.declared.fault.FollowFault.TheVariants as fault
use Rattle.ilp_follows.specs.Follows.{IsOfReading, IsWhyNotFollowed}

pub not_read : (C : Configuration) (text : List ℕ) (next : Configuration) (next_text : List ℕ) (f : FollowFault) → IsOfReading f → IsWhyNotFollowed C text next next_text f
not_read C text next next_text (fault.BadLine line) is = tt
not_read C text next next_text (fault.NamesNothing entry) is = tt
not_read C text next next_text (fault.Closing why) is = absurd is
not_read C text next next_text (fault.OtherPeriod found) is = absurd is
not_read C text next next_text (fault.Differs entry) is = absurd is
not_read C text next next_text fault.Memory is = tt
