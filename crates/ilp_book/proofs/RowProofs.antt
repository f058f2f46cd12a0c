-- The worked runs compute. What looks at a preimage holds for every condition that it meets.
use Rattle.std.proofs.Common.{◌≡◌, ℕ, List, refl, true, replicate}
use Rattle.ilp_assets.specs.Quote.{quote}
use Rattle.ilp_journal.specs.Balance.{balance}
use Rattle.ilp_journal.specs.TrialBalance.{total_in, total_out}
use Rattle.ilp_terms.specs.Condition.{meets}
use Rattle.ilp_journal.specs.Journal.{open_holds, open_asks}
use Rattle.ilp_book.specs.HoldStep.{hold_terms, hold_fitted, hold_checked, hold_step}
use Rattle.ilp_book.specs.AnswerStep.{judged_reply, answer_step, expire_step}
use Rattle.ilp_book.specs.SettleStep.{credit_checked, credit_step, ask_checked, ask_step, close_step}
use Rattle.ilp_book.specs.Rows.{PaidRow, LateRow, ReleasedRow, ExpiredRow, LeastRow, TermsRow, TotalRow, FullRow, OlderRow, CreditedRow, CorrectedRow, SettledRow, PartsRow, CarriedRow}

pub paid_row : (c : List ℕ) → meets c (replicate 32 0) ≡ true → PaidRow c
unfolding quote balance total_in total_out open_holds hold_terms hold_fitted hold_checked hold_step judged_reply answer_step
paid_row c met = record {
  replies = rw met refl;
  alice_has = rw met refl;
  bob_has = rw met refl;
  open_before = refl;
  open_of_bob = refl;
  open_after = rw met refl;
}

pub late_row : (c : List ℕ) → meets c (replicate 32 0) ≡ true → LateRow c
unfolding quote balance total_in total_out hold_terms hold_fitted hold_checked hold_step judged_reply answer_step
late_row c met = record { before = rw met refl; from_then_on = refl }

pub released_row : (c : List ℕ) → ReleasedRow c
unfolding quote balance total_in total_out hold_terms hold_fitted hold_checked hold_step judged_reply answer_step
released_row c = record {
  wrong = λ unmet. rw unmet refl;
  known_wrong = refl;
  rejected = refl;
  unanswered = refl;
  once = refl;
  given_back = refl;
  no_hold = refl;
}

pub expired_row : (c : List ℕ) → ExpiredRow c
unfolding quote balance total_in total_out hold_terms hold_fitted hold_checked hold_step answer_step expire_step
expired_row c = refl

pub least_row : (c : List ℕ) → LeastRow c
unfolding quote balance total_in total_out hold_terms hold_fitted hold_checked hold_step
least_row c = refl

pub terms_row : (c : List ℕ) → TermsRow c
unfolding quote balance total_in total_out hold_terms hold_fitted hold_checked hold_step
terms_row c = record { too_large = refl; no_route = refl; back = refl; in_time = refl; too_short = refl; expired = refl; nothing_left = refl; first = refl }

pub total_row : (c : List ℕ) → TotalRow c
unfolding quote balance total_in total_out hold_terms hold_fitted hold_checked hold_step credit_checked credit_step
total_row c = refl

pub full_row : (c : List ℕ) → FullRow c
unfolding quote balance total_in total_out hold_terms hold_fitted hold_checked hold_step expire_step credit_checked credit_step
full_row c = refl

pub older_row : (c : List ℕ) → OlderRow c
unfolding quote balance total_in total_out hold_terms hold_fitted hold_checked hold_step
older_row c = refl

pub credited_row : CreditedRow
unfolding balance credit_checked credit_step
credited_row = refl

pub corrected_row : CorrectedRow
unfolding balance credit_checked credit_step
corrected_row = refl

pub settled_row : SettledRow
unfolding balance open_asks credit_checked credit_step ask_checked ask_step close_step
settled_row = refl

pub parts_row : PartsRow
unfolding balance open_asks credit_checked credit_step ask_checked ask_step close_step
parts_row = refl

pub carried_row : (c : List ℕ) → CarriedRow c
unfolding quote balance total_in total_out hold_terms hold_fitted hold_checked hold_step
carried_row c = record { before = refl; from_then_on = refl; base = refl; given_back = refl }
