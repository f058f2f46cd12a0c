use Rattle.std.proofs.Common.{arith, sym, ap}
use Rattle.std.proofs.lemmas.Option.{slice_get_past}
use Rattle.std.specs.Prelude.{unwrap_or}
use Rattle.ilp_accounts.specs.Configuration.{nobody}
use Rattle.ilp_offline.proofs.reply.name_of.Goals as goal

-- there is no such peer
pub returns-else-peer-peers : goal.returns-else-peer-peers
returns-else-peer-peers g =
    let past = slice_get_past g.args.config.now.peers g.args.peer (omega (arith, g.if-peer-peers.false, g.peers.ensures.count)) in
    sym (ap (λ found. (unwrap_or found nobody).name) past)
