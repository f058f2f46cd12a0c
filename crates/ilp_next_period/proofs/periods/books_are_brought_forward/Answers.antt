use Rattle.ilp_journal.proofs.HeadBooks.{head_settles}
use Rattle.ilp_rules.specs.Configured.{peer_assets}
use Rattle.ilp_next_period.specs.NextPeriod.{period_end}
use Rattle.ilp_next_period.proofs.NextBooks.{books_kept}
use Rattle.ilp_next_period.proofs.periods.books_are_brought_forward.Goals as goal

pub returns : goal.returns
returns c = record {
  settled = λ book next now x. head_settles (peer_assets next) (period_end book next now) book.entries x;
  balances = λ book next now asset valid later lawful may. books_kept book next now asset valid later lawful may;
}
