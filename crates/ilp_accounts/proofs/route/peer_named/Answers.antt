use Rattle.ilp_accounts.proofs.Lookups.{placed}
use Rattle.ilp_accounts.proofs.route.peer_named.Goals as goal

pub returns : goal.returns
returns c = placed c.args.names.now c.args.name.now c.find.result (rw (← c.as_bytes.ensures.value) c.find.ensures)
