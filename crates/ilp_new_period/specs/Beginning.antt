-- Why a period has no next one, as a refusal.
use Rattle.std.specs.Prelude.{◌≡◌, ⊤, pos}
use Rattle.ilp_accounts.specs.Configuration.{Configuration}
use Rattle.ilp_rules.specs.Book.{PlainBook}
use Rattle.ilp_rules.specs.Configured.{IsKnown}
use Rattle.ilp_next_period.specs.NextPeriod.{IsWhyNotClosed}
use Rattle.ilp_next_period.specs.declared.forward_fault.ForwardFault.{ForwardFault}
use Rattle.ilp_next_period.specs.declared.forward_fault.ForwardFault.TheVariants as fault
use Rattle.ilp_follows.specs.declared.fault.FollowFault.{FollowFault}
use Rattle.ilp_follows.specs.declared.fault.FollowFault.TheVariants as follow_fault
use Rattle.ilp_refusals.specs.Refusals.{forward_refusal}
use Rattle.ilp_refusals.specs.declared.refusal.Refusal.{Refusal}

-- the refusal is that of why the books are not closed for a period of the next configuration
pub record IsWhyNoNext (book : PlainBook) (next : Configuration) (refusal : Refusal) : Type 0 where
  pub fault : ForwardFault
  pub why : IsWhyNotClosed book next (pos 0) fault
  pub named : refusal ≡ forward_refusal fault

-- a peer that a fault names is one of the configuration's
abbrev pub IsOfAPeer : Configuration → ForwardFault → Type 0
IsOfAPeer C (fault.BalanceTooLarge peer b) = IsKnown C peer
IsOfAPeer C (fault.PeerRemoved peer b) = IsKnown C peer
IsOfAPeer C (fault.OtherAsset peer b) = IsKnown C peer
IsOfAPeer C (fault.BelowLeast peer b) = IsKnown C peer
IsOfAPeer C other = ⊤

-- a fault of two texts names peers of the configuration of the one that ended
abbrev pub NamesPeers : Configuration → FollowFault → Type 0
NamesPeers C (follow_fault.Closing why) = IsOfAPeer C why
NamesPeers C other = ⊤
