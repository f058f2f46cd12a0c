use Rattle.ilp_alike.proofs.Begun.{balance_alike, credit_alike, settlements_alike}
use Rattle.ilp_alike.proofs.peers_begin_alike.Goals as goal

pub returns : goal.returns
returns c = record {
  balances = λ book next now q valid later lawful may known. balance_alike book next now valid later lawful may.run may.closed q known;
  keys = λ book next now q key valid later lawful may known. credit_alike book next now valid later lawful may.run may.closed q known key;
  settlements = λ book next now q valid later lawful may known. settlements_alike book next now valid later lawful may.run may.closed q known;
}
