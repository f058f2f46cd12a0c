use Rattle.std.proofs.Common.{◌≡◌, ℕ, ◌<◌, ◌^◌, ℤ, Option, Some, None, sym, ap, ◌∙◌, subst, refl, rules, to_z, of_z}
use Rattle.std.specs.Prelude.{Result, FitsSigned, option_map}
use Rattle.std.specs.Int.{w64}
use Rattle.std.proofs.lemmas.Int.{to_z-of_z}
use Rattle.ilp_journal.specs.declared.entry.Credited.{Credited}
use Rattle.ilp_journal.specs.declared.credit_kind.CreditKind.{CreditKind}
use Rattle.ilp_settlement.specs.declared.quantity.Quantity.{Quantity}
use Rattle.ilp_settlement.specs.Quantity.{credited_at}
use Rattle.ilp_rules.specs.Book.{PlainBook, by, Does}
use Rattle.ilp_rules.specs.Configured.{IsKnown}
use Rattle.ilp_rules.specs.Lawful.{IsFreshCredit}
use Rattle.ilp_book.specs.declared.calls.Kept.{Kept}
use Rattle.ilp_book.specs.declared.fault.CreditFault.{CreditFault}
use Rattle.ilp_book.specs.SettleStep.{payment, amount_of, credit_of, credit_kept, kept, credit_booked, credit_growth, credit_checked, credit_step}
use Rattle.ilp_book.proofs.SettleSteps.{fresh_credit, fresh_checked}
use Rattle.ilp_book.proofs.book.Book.credit.Goals as goal

not_kept : (q : Quantity) (kind : CreditKind) (o : Option (ℕ × Credited)) → option_map (credit_kept q kind) o ≡ None → o ≡ None
not_kept q kind None e = refl
not_kept q kind (Some x) e = cc

-- a payment whose key is not kept is a fresh credit
pub book_credit-requires : goal.book_credit-requires
book_credit-requires g c =
    let C = c.self.inside.config in
    let j = c.self.inside.journal.entries in
    let p = payment c.args.peer c.args.key c.args.quantity.now c.args.kind in
    let Known : PlainBook → Type 0 = λ b. IsKnown b.config c.args.peer in
    let known = subst Known (sym c.self.view_is) c.requires.known in
    let none : kept j p.peer p.key ≡ None = not_kept p.quantity p.kind (kept j p.peer p.key) (sym c.in-None.ensures.value) in
    let Fresh : PlainBook → Type 0 = λ b. IsFreshCredit b.config b.entries (credit_of C p) in
    let fresh = subst Fresh c.self.view_is (fresh_credit C j p known c.in-None.ensures.key none) in
    let amount : c.in_ok-amount.amount ≡ amount_of C p = c.in_ok-amount.ensures.1 ∙ ap (credited_at c.args.quantity.now) c.scale.ensures in
    let Of : ℕ → Type 0 = λ n. IsFreshCredit c.args.self.now.config c.args.self.now.entries (record { peer = c.args.peer; key = c.args.key; named = c.args.quantity.now.amount; scale = c.args.quantity.now.scale; credited = n; kind = c.args.kind }) in
    record { fresh = subst Of (sym amount) fresh }

-- the step is what the book has for a fresh credit
pub returns-in-None-clause-step : goal.returns-in-None-clause-step
unfolding credit_step
returns-in-None-clause-step g c =
    let book = c.args.self.now in
    let p = payment c.args.peer c.args.key c.args.quantity.now c.args.kind in
    let n = c.in_ok-amount.amount in
    let Amount : PlainBook → Type 0 = λ b. n ≡ amount_of b.config p in
    let amount = subst Amount c.self.view_is (c.in_ok-amount.ensures.1 ∙ ap (credited_at c.args.quantity.now) c.scale.ensures) in
    let small = subst (λ (m : ℕ). m < 2 ^ 64) (sym c.in_ok-amount.ensures.1) c.in_ok-amount.ensures.0 in
    let NotKept : PlainBook → Type 0 = λ b. kept b.entries p.peer p.key ≡ None in
    let none = subst NotKept c.self.view_is (not_kept p.quantity p.kind (kept c.self.inside.journal.entries p.peer p.key) (sym c.in-None.ensures.value)) in
    let Made : Result Credited (Result Kept CreditFault) → Type 0 = λ made. Does book c.book_credit.new.self c.book_credit.result (credit_booked book (by c.args.actor (to_z w64 (of_z w64 c.args.now))) (credit_growth c.book_credit.result) made) in
    let made = subst Made (sym (fresh_checked book p n amount small none)) c.book_credit.ensures.step in
    let At : ℤ → Type 0 = λ t. Does book c.book_credit.new.self c.book_credit.result (credit_booked book (by c.args.actor t) (credit_growth c.book_credit.result) (credit_checked book p)) in
    let fits : FitsSigned w64 c.args.now = search rules in
    subst At (to_z-of_z w64 c.args.now fits) made
