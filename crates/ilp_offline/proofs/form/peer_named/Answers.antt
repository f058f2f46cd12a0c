use Rattle.ilp_accounts.specs.Configuration.{peer_names}
use Rattle.ilp_accounts.proofs.Lookups.{placed}
use Rattle.ilp_offline.proofs.form.peer_named.Goals as goal

pub returns-clause-place : goal.returns-clause-place
returns-clause-place c = placed (peer_names c.args.config.now.peers) c.args.name.now c.peer_by_name.result c.peer_by_name.ensures.place
