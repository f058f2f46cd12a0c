use Rattle.ilp_next_period.proofs.NextLawful.{next_lawful, least_kept, no_holds}
use Rattle.ilp_next_period.proofs.periods.forward_is_lawful.Goals as goal

pub returns : goal.returns
returns c = record {
  lawful = λ book next now valid later lawful may room.
      next_lawful book next now valid later lawful may.run may.numbered (least_kept book next now valid later (λ p q known there. (may.peers p known).least q there)) room;
  closed = λ book next now n. no_holds book next now n;
}
