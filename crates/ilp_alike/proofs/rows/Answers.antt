use Rattle.std.proofs.Common.{List, ℕ, refl}
use Rattle.std.specs.Fmt.{digits}
use Rattle.ilp_assets.specs.Quote.{quote}
use Rattle.ilp_journal.specs.Balance.{balance}
use Rattle.ilp_journal.specs.TrialBalance.{total_in, total_out}
use Rattle.ilp_journal.specs.Journal.{open_asks}
use Rattle.ilp_journal.specs.BroughtForward.{brought_forward}
use Rattle.ilp_book.specs.HoldStep.{hold_terms, hold_fitted, hold_checked, hold_step}
use Rattle.ilp_book.specs.AnswerStep.{judged_reply, answer_step, expire_step}
use Rattle.ilp_book.specs.SettleStep.{credit_checked, credit_step, ask_checked, ask_step, close_step}
use Rattle.ilp_alike.specs.Rows.{AlikeRow}
use Rattle.ilp_alike.proofs.rows.Goals as goal

alike_row : (c : List ℕ) → AlikeRow c
unfolding digits quote balance total_in total_out open_asks brought_forward hold_terms hold_fitted hold_checked hold_step judged_reply answer_step expire_step credit_checked credit_step ask_checked ask_step close_step
alike_row c = record { later = refl; before = refl; numbers = refl }

pub returns : goal.returns
returns c = record { alike = alike_row }
