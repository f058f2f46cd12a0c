use Rattle.ilp_alike.proofs.AlikeRuns.{balance_stays, credit_stays, settlement_stays}
use Rattle.ilp_alike.proofs.peers_stay_alike.Goals as goal

pub returns : goal.returns
returns c = record {
  balances = balance_stays;
  keys = credit_stays;
  settlements = settlement_stays;
}
