use Rattle.ilp_fields.specs.Checks.{first_beside}
use Rattle.ilp_accounts.specs.Configuration.{route_of}
use Rattle.ilp_accounts.specs.Faults.{route_fault}
use Rattle.ilp_accounts.proofs.Turns.{IsRead}
use Rattle.ilp_accounts.proofs.route.routes_among.Given as goal

abbrev pub invariant-loop-value : goal.invariant-loop-value
invariant-loop-value l = IsRead (first_beside (route_fault l.names) (route_of l.names)) (route_of l.names) l.values l.value-index l.routes
