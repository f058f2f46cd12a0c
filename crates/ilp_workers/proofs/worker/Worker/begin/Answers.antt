use Rattle.ilp_packet.specs.Packet.{plain_prepare, prepare}
use Rattle.ilp_packet.proofs.WritingLemmas.{one_size}
use Rattle.ilp_workers.proofs.Halving.{begun_for_peers}
use Rattle.ilp_workers.proofs.worker.Worker.begin.Goals as goal

pub begin-requires-clause-len : goal.begin-requires-clause-len
begin-requires-clause-len g c = one_size c.args.octets.now (prepare (plain_prepare c.in-Ok.prepare)) c.in-Ok.ensures.ok

-- a Prepare for a peer was begun
pub returns-clause-begun : goal.returns-clause-begun
returns-clause-begun g c =
    begun_for_peers g.J.Naming.desk c.args.from c.args.octets.now (plain_prepare c.in-Ok.prepare) c.args.self.now _ c.begin.result c.in-Ok.ensures.ok c.if-is_for_engine.ensures (rw (← c.self.view_is) c.begin.ensures.begun)
