use Rattle.std.proofs.Common.{Ok, ap}
use Rattle.ilp_journal_text.proofs.Peers.{peer_found, peer_missing}
use Rattle.ilp_journal_text.proofs.fields.peer_in.Goals as goal

pub returns-in-Some-clause-read : goal.returns-in-Some-clause-read
returns-in-Some-clause-read c = λ p known is. ap Ok (peer_found c.args.config.now p known c.args.field.now is c.in-Some.peer c.in-Some.ensures.place)

pub returns-in-None-clause-read : goal.returns-in-None-clause-read
returns-in-None-clause-read c = λ p known is. absurd (peer_missing c.args.config.now p known c.args.field.now is c.in-None.ensures.place)
