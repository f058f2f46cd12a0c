-- The worked reports compute.
use Rattle.std.proofs.Common.{refl}
use Rattle.std.specs.Fmt.{digits}
use Rattle.ilp_journal.specs.Journal.{open_holds}
use Rattle.ilp_journal.specs.Balance.{balance}
use Rattle.ilp_journal.specs.TrialBalance.{held, fees, taken, sold, settled}
use Rattle.ilp_report.specs.Report.{line, peer_account, asset_books, snapshot_of}
use Rattle.ilp_report.specs.Rows.{PaidRow, SettledRow, NextPeriodRow}

pub paid_row : PaidRow
unfolding digits open_holds balance held fees taken sold settled line peer_account asset_books snapshot_of
paid_row = refl

pub settled_row : SettledRow
unfolding digits open_holds balance held fees taken sold settled line peer_account asset_books snapshot_of
settled_row = refl

pub next_period_row : NextPeriodRow
unfolding digits open_holds balance held fees taken sold settled line peer_account asset_books snapshot_of
next_period_row = refl
