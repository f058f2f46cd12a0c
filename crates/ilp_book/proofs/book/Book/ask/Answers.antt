use Rattle.std.proofs.Common.{◌≡◌, ℤ, Some, None, sym, ap, ◌∙◌, subst, rules}
use Rattle.std.specs.Prelude.{FitsSigned}
use Rattle.std.specs.Int.{w64, w128}
use Rattle.std.proofs.lemmas.Int.{to_z-of_z}
use Rattle.ilp_accounts.specs.Configuration.{peer_at}
use Rattle.ilp_journal.specs.Balance.{balance}
use Rattle.ilp_rules.specs.Book.{PlainBook, by, Does}
use Rattle.ilp_rules.specs.Configured.{IsKnown}
use Rattle.ilp_rules.specs.Lawful.{IsDueAsk}
use Rattle.ilp_book.specs.SettleStep.{still_open, ask_booked, ask_fitted, ask_growth}
use Rattle.ilp_rules.specs.Lawful.{due_amount}
use Rattle.ilp_book.proofs.SettleSteps.{due_ask, ask_due}
use Rattle.ilp_book.proofs.book.Book.ask.Goals as goal

-- what is due, where none is open, is an ask that the rules know
pub book_ask-requires : goal.book_ask-requires
book_ask-requires g c =
    let C = c.self.inside.config in
    let j = c.self.inside.journal.entries in
    let peer = c.args.peer in
    let amount = c.in-Some-due_amount.amount in
    let Known : PlainBook → Type 0 = λ b. IsKnown b.config peer in
    let Due : PlainBook → Type 0 = λ b. IsDueAsk b.config b.entries (record { peer = peer; amount = amount }) in
    let owed_fits : FitsSigned w128 c.balance-balance.result = search rules in
    let owed = to_z-of_z w128 c.balance-balance.result owed_fits ∙ c.balance-balance.ensures.value ∙ ap (λ (b : PlainBook). balance b.entries peer) (sym c.self.view_is) in
    let due : due_amount (balance j peer) (peer_at C peer).levels ≡ Some amount
    = sym (c.in-Some-due_amount.ensures ∙ ap (λ (b : ℤ). due_amount b c.levels.result) owed ∙ ap (due_amount (balance j peer)) c.levels.ensures) in
    record {
      due = subst Due c.self.view_is (due_ask C j peer amount c.self.invariant.0.valid (subst Known (sym c.self.view_is) c.requires.known) (sym c.in-None.ensures) due);
    }

-- the step is what the book has for it
pub returns-in-Some-due_amount-clause-step : goal.returns-in-Some-due_amount-clause-step
returns-in-Some-due_amount-clause-step g c =
    let book = c.args.self.now in
    let j = c.self.inside.journal.entries in
    let peer = c.args.peer in
    let amount = c.in-Some-due_amount.amount in
    let result = c.book_ask.result in
    let owed_fits : FitsSigned w128 c.balance-balance.result = search rules in
    let owed = to_z-of_z w128 c.balance-balance.result owed_fits ∙ c.balance-balance.ensures.value ∙ ap (λ (b : PlainBook). balance b.entries peer) (sym c.self.view_is) in
    let due : due_amount (balance j peer) (peer_at c.self.inside.config peer).levels ≡ Some amount
    = sym (c.in-Some-due_amount.ensures ∙ ap (λ (b : ℤ). due_amount b c.levels.result) owed ∙ ap (due_amount (balance j peer)) c.levels.ensures) in
    let Due : PlainBook → Type 0 = λ b. due_amount (balance b.entries peer) (peer_at b.config peer).levels ≡ Some amount in
    let Free : PlainBook → Type 0 = λ b. still_open b.entries peer ≡ None in
    let now_fits : FitsSigned w64 c.args.now = search rules in
    let Done : ℤ → Type 0 = λ t. Does book c.book_ask.new.self result (ask_booked book (by c.args.actor t) (ask_growth result) (ask_fitted book (record { peer = peer; amount = amount }))) in
    ask_due book c.book_ask.new.self (by c.args.actor c.args.now) peer amount (ask_growth result) result
    (subst Free c.self.view_is (sym c.in-None.ensures)) (subst Due c.self.view_is due)
    (subst Done (to_z-of_z w64 c.args.now now_fits) c.book_ask.ensures.step)
