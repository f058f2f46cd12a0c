use Rattle.std.proofs.Common.{◌+◌}
use Rattle.ilp_journal.proofs.Heads.{balance_kept, credit_kept, settlements_kept}
use Rattle.ilp_rules.specs.Heads.{settlement_key_of}
use Rattle.ilp_next_period.specs.NextPeriod.{period_end}
use Rattle.ilp_next_period.proofs.PeerNames.{next_peer}
use Rattle.ilp_next_period.proofs.periods.peers_are_brought_forward.Goals as goal

pub returns : goal.returns
returns c = record {
  balances = λ book next now p q valid later same. balance_kept (period_end book next now) book.entries p q (next_peer book.config next valid later p q same);
  keys = λ book next now p q key valid later same. credit_kept (period_end book next now) book.entries p q key (next_peer book.config next valid later p q same);
  settlements = λ book next now p q valid later same.
      settlements_kept (settlement_key_of next (book.period + 1)) (period_end book next now) book.entries p q (next_peer book.config next valid later p q same);
}
