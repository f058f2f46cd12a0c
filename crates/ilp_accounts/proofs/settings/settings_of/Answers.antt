use Rattle.std.proofs.Common.{refl, rules}
use Rattle.ilp_accounts.specs.Faults.{settings_fault}
use Rattle.ilp_accounts.specs.Configuration.{settings_of}
use Rattle.ilp_accounts.proofs.settings.settings_of.Goals as goal

-- no field has a fault, and each has its value
pub returns : goal.returns
unfolding settings_fault settings_of
returns c =
    rw (c.in_ok-address.ensures.0, c.in_ok-run.ensures.0, c.in_ok-listen.ensures.0, c.in_ok-engine_listen.ensures.0, c.in_ok-path.ensures.0, c.in_ok-workers.ensures.0, c.in_ok-journal.ensures.0, c.in_ok-window_ms.ensures.0, c.in_ok-max_hold_ms.ensures.0, c.in_ok-sweep_ms.ensures.0, c.in_ok-settle_ms.ensures.0, c.in_ok-sync.ensures.0, c.in_ok-in_flight.ensures.0, c.in_ok-new_period_at.ensures.0)
    (refl, search rules)
