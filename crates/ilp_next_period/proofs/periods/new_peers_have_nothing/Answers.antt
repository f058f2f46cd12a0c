use Rattle.std.proofs.Common.{◌+◌}
use Rattle.ilp_journal.proofs.Heads.{balance_of_new, credit_of_new, settlements_of_new}
use Rattle.ilp_rules.specs.Heads.{settlement_key_of}
use Rattle.ilp_next_period.specs.NextPeriod.{period_end}
use Rattle.ilp_next_period.proofs.PeerNames.{new_peer}
use Rattle.ilp_next_period.proofs.periods.new_peers_have_nothing.Goals as goal

pub returns : goal.returns
returns c = record {
  balances = λ book next now q valid new. balance_of_new (period_end book next now) book.entries q (new_peer book.config next q valid new);
  keys = λ book next now q key valid new. credit_of_new (period_end book next now) book.entries q key (new_peer book.config next q valid new);
  settlements = λ book next now q valid new.
      settlements_of_new (settlement_key_of next (book.period + 1)) (period_end book next now) book.entries q (new_peer book.config next q valid new);
}
