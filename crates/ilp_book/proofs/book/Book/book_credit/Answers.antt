use Rattle.std.proofs.Common.{◌≡◌, ℕ, ℤ, true, false, sym, ap, ◌∙◌, subst, rules, to_z, of_z}
use Rattle.std.specs.Prelude.{Result, Ok, int_lt, pos, ◌-ℤ◌, FitsSigned}
use Rattle.std.specs.Int.{w64, w128}
use Rattle.std.proofs.lemmas.Int.{to_z-of_z}
use Rattle.ilp_accounts.specs.Configuration.{peer_at}
use Rattle.ilp_journal.specs.declared.entry.What.TheVariants as what
use Rattle.ilp_journal.specs.declared.entry.Credited.{Credited}
use Rattle.ilp_journal.specs.Balance.{balance}
use Rattle.ilp_journal.specs.Credits.{lowering}
use Rattle.ilp_rules.specs.Book.{PlainBook, by, Does, granted, moment_at, pushed}
use Rattle.ilp_rules.proofs.InTime.{admitted_at}
use Rattle.ilp_book.specs.declared.calls.Kept.{Kept}
use Rattle.ilp_book.specs.declared.fault.CreditFault.{CreditFault}
use Rattle.ilp_book.specs.SettleStep.{credit_booked, credit_growth, credit_fitted}
use Rattle.ilp_book.proofs.SettleSteps.{credit_admitted, enough_by, fitted}
use Rattle.ilp_book.proofs.book.Book.book_credit.Goals as goal

-- the credit is admitted, since nothing refused it
pub append-requires-clause-lawful : goal.append-requires-clause-lawful
append-requires-clause-lawful g c =
    let book = c.args.self.now in
    let credit = c.args.credit in
    let lawful = c.has_room.ensures.lawful in
    let caller = by c.args.actor (to_z w64 (of_z w64 c.args.now)) in
    let owed_fits : FitsSigned w128 c.balance-balance.result = search rules in
    let least_fits : FitsSigned w64 c.least-least.result = search rules in
    let not_short : int_lt (to_z w128 (of_z w128 c.balance-balance.result) -ℤ pos (lowering credit.kind credit.credited)) (to_z w64 (of_z w64 c.least-least.result)) ≡ false = grind rules in
    let owed = to_z-of_z w128 c.balance-balance.result owed_fits ∙ c.balance-balance.ensures.value in
    let at_least = to_z-of_z w64 c.least-least.result least_fits ∙ c.least-least.ensures ∙ ap (λ (b : PlainBook). (peer_at b.config credit.peer).least) c.self.view_is in
    let enough = enough_by book credit (to_z w128 (of_z w128 c.balance-balance.result)) (to_z w64 (of_z w64 c.least-least.result)) owed at_least not_short in
    let fits : FitsSigned w64 c.moment_at-moment.result = search rules in
    admitted_at book caller (what.Credited credit) (to_z w64 (of_z w64 c.moment_at-moment.result)) lawful
    (credit_admitted book caller credit lawful c.requires.fresh (sym c.has_room.ensures.value ∙ c.if-not-has_room.false) enough)
    (to_z-of_z w64 c.moment_at-moment.result fits ∙ c.moment_at-moment.ensures.moment)

-- where memory is denied, that is what is told
pub returns-in_err-number-clause-step : goal.returns-in_err-number-clause-step
returns-in_err-number-clause-step g c =
    let book = c.args.self.now in
    let credit = c.args.credit in
    let owed_fits : FitsSigned w128 c.balance-balance.result = search rules in
    let least_fits : FitsSigned w64 c.least-least.result = search rules in
    let not_short : int_lt (to_z w128 (of_z w128 c.balance-balance.result) -ℤ pos (lowering credit.kind credit.credited)) (to_z w64 (of_z w64 c.least-least.result)) ≡ false = grind rules in
    let owed = to_z-of_z w128 c.balance-balance.result owed_fits ∙ c.balance-balance.ensures.value in
    let at_least = to_z-of_z w64 c.least-least.result least_fits ∙ c.least-least.ensures ∙ ap (λ (b : PlainBook). (peer_at b.config credit.peer).least) c.self.view_is in
    let enough = enough_by book credit (to_z w128 (of_z w128 c.balance-balance.result)) (to_z w64 (of_z w64 c.least-least.result)) owed at_least not_short in
    let room = sym c.has_room.ensures.value ∙ c.if-not-has_room.false in
    let Step : Result Credited (Result Kept CreditFault) → Type 0 = λ made. Does book c.append.new.self c.from_residual.result (credit_booked book (by c.args.actor c.args.now) (credit_growth c.from_residual.result) made) in
    let told : Step (Ok credit) = search rules in
    subst Step (sym (fitted book credit room enough)) told

-- else the credit is booked
pub returns-clause-step : goal.returns-clause-step
returns-clause-step g c =
    let book = c.args.self.now in
    let credit = c.args.credit in
    let owed_fits : FitsSigned w128 c.balance-balance.result = search rules in
    let least_fits : FitsSigned w64 c.least-least.result = search rules in
    let not_short : int_lt (to_z w128 (of_z w128 c.balance-balance.result) -ℤ pos (lowering credit.kind credit.credited)) (to_z w64 (of_z w64 c.least-least.result)) ≡ false = grind rules in
    let owed = to_z-of_z w128 c.balance-balance.result owed_fits ∙ c.balance-balance.ensures.value in
    let at_least = to_z-of_z w64 c.least-least.result least_fits ∙ c.least-least.ensures ∙ ap (λ (b : PlainBook). (peer_at b.config credit.peer).least) c.self.view_is in
    let enough = enough_by book credit (to_z w128 (of_z w128 c.balance-balance.result)) (to_z w64 (of_z w64 c.least-least.result)) owed at_least not_short in
    let room = sym c.has_room.ensures.value ∙ c.if-not-has_room.false in
    let reply : ℕ → Result Kept CreditFault = λ n. Ok (record { number = n; amount = credit.credited; fresh = true }) in
    let Step : Result Credited (Result Kept CreditFault) → Type 0 = λ made. Does book c.append.new.self (reply c.in_ok-number.number) (credit_booked book (by c.args.actor c.args.now) granted made) in
    let moment_fits : FitsSigned w64 c.moment_at-moment.result = search rules in
    let now_fits : FitsSigned w64 c.args.now = search rules in
    let moment : to_z w64 (of_z w64 c.moment_at-moment.result) ≡ moment_at book.entries c.args.now
    = to_z-of_z w64 c.moment_at-moment.result moment_fits ∙ c.moment_at-moment.ensures.moment ∙ ap (moment_at book.entries) (to_z-of_z w64 c.args.now now_fits) in
    let booked : Step (Ok credit) = record {
      reply = ap reply c.in_ok-number.ensures.number;
      book = c.in_ok-number.ensures.book ∙ ap (λ (m : ℤ). pushed book (record { moment = m; actor = c.args.actor; what = what.Credited credit })) moment;
    } in
    subst Step (sym (fitted book credit room enough)) booked
