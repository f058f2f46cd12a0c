-- A fault of two texts names peers of the configuration of the one that ended.
use Rattle.std.proofs.Common.{ℕ, List, pos}
use Rattle.ilp_accounts.specs.Configuration.{Configuration}
use Rattle.ilp_rules.specs.Book.{PlainBook}
use Rattle.ilp_next_period.specs.NextPeriod.{IsWhyNotClosed}
use Rattle.ilp_next_period.specs.declared.forward_fault.ForwardFault.{ForwardFault}
use Rattle.ilp_next_period.specs.declared.forward_fault.ForwardFault.TheVariants as fault
use Rattle.ilp_follows.specs.Follows.{ended_book, IsWhyNotFollowed}
use Rattle.ilp_follows.specs.declared.fault.FollowFault.{FollowFault}
use Rattle.ilp_follows.specs.declared.fault.FollowFault.TheVariants as follow_fault
use Rattle.ilp_new_period.specs.Beginning.{IsOfAPeer, NamesPeers}

closed_by : (book : PlainBook) (next : Configuration) (why : ForwardFault) → IsWhyNotClosed book next (pos 0) why → IsOfAPeer book.config why
closed_by book next fault.OtherRun is = tt
closed_by book next fault.LastPeriod is = tt
closed_by book next (fault.HoldOpen hold) is = tt
closed_by book next (fault.BalanceTooLarge peer b) is = is.0.known
closed_by book next (fault.PeerRemoved peer b) is = is.0.known
closed_by book next (fault.OtherAsset peer b) is = is.0.known
closed_by book next (fault.BelowLeast peer b) is = is.0.known
closed_by book next fault.Full is = tt
closed_by book next fault.Memory is = tt

pub named_by : (C : Configuration) (text : List ℕ) (next : Configuration) (next_text : List ℕ) (f : FollowFault) → IsWhyNotFollowed C text next next_text f → NamesPeers C f
named_by C text next next_text (follow_fault.BadLine line) why = tt
named_by C text next next_text (follow_fault.NamesNothing entry) why = tt
named_by C text next next_text (follow_fault.Closing because) why = closed_by (ended_book C why.period why.entries) next because why.wants
named_by C text next next_text (follow_fault.OtherPeriod found) why = tt
named_by C text next next_text (follow_fault.Differs entry) why = tt
named_by C text next next_text follow_fault.Memory why = tt
