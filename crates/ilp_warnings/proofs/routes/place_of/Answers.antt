use Rattle.ilp_accounts.specs.Configuration.{peer_names}
use Rattle.ilp_accounts.proofs.Lookups.{placed}
use Rattle.ilp_warnings.proofs.routes.place_of.Goals as goal

pub returns-clause-is : goal.returns-clause-is
returns-clause-is c = placed (peer_names c.args.config.now.peers) c.args.name.now c.peer_by_name.result (rw (← c.as_bytes.ensures.value) c.peer_by_name.ensures.place)
