use Rattle.std.proofs.Common.{◌≡◌, ℤ, sym, ap, ◌∙◌, subst, rules, to_z, of_z}
use Rattle.std.specs.Prelude.{FitsSigned, Result, Ok, Err, IsErrAnd}
use Rattle.std.specs.Int.{w64}
use Rattle.std.proofs.lemmas.Int.{to_z-of_z}
use Rattle.ilp_packet.specs.Packet.{plain_prepare}
use Rattle.ilp_accounts.specs.Valid.{IsValid}
use Rattle.ilp_rules.specs.Book.{PlainBook, by, moment_at, Does}
use Rattle.ilp_book.specs.declared.calls.Held.{Held}
use Rattle.ilp_book.specs.declared.fault.HoldFault.{HoldFault}
use Rattle.ilp_rules.specs.Lawful.{HasTerms}
use Rattle.ilp_book.specs.HoldStep.{given_route, hold_terms, hold_fitted, hold_booked, hold_step, growth_of}
use Rattle.ilp_book.proofs.HoldSteps.{terms_allowed, hold_termed, hold_refused}
use Rattle.ilp_book.proofs.book.Book.hold_routed.Goals as goal

-- the terms that a Prepare asks for are allowed
pub book_hold-requires : goal.book_hold-requires
book_hold-requires g c =
    let Valid : PlainBook → Type 0 = λ b. IsValid b.config in
    let valid = subst Valid c.self.view_is c.self.invariant.0.valid in
    let sent = given_route c.args.from (plain_prepare c.args.prepare.now) c.args.route in
    let m = to_z w64 (of_z w64 c.moment_at-moment.result) in
    let fits : FitsSigned w64 c.moment_at-moment.result = search rules in
    let moment = to_z-of_z w64 c.moment_at-moment.result fits ∙ c.moment_at-moment.ensures.moment in
    let terms : hold_terms c.args.self.now.config m sent ≡ Ok c.in_ok-hold.hold
    = ap (λ (b : PlainBook). hold_terms b.config m sent) (sym c.self.view_is) ∙ sym c.in_ok-hold.ensures.terms in
    record {
      terms = subst (λ t. HasTerms c.args.self.now.config t c.in_ok-hold.hold) moment
          (terms_allowed c.args.self.now.config m sent c.in_ok-hold.hold valid c.requires.known c.requires.route terms);
    }

-- the terms that were looked up are those at the moment of the call
pub returns-clause-step : goal.returns-clause-step
returns-clause-step g c =
    let book = c.args.self.now in
    let sent = given_route c.args.from (plain_prepare c.args.prepare.now) c.args.route in
    let fits : FitsSigned w64 c.args.now = search rules in
    let moment_fits : FitsSigned w64 c.moment_at-moment.result = search rules in
    let moment = to_z-of_z w64 c.moment_at-moment.result moment_fits ∙ c.moment_at-moment.ensures.moment ∙ ap (λ (t : ℤ). moment_at book.entries t) (to_z-of_z w64 c.args.now fits) in
    let Termed : ℤ → Type 0 = λ t. hold_terms book.config t sent ≡ Ok c.in_ok-hold.hold in
    let terms : Termed (to_z w64 (of_z w64 c.moment_at-moment.result)) = ap (λ (b : PlainBook). hold_terms b.config (to_z w64 (of_z w64 c.moment_at-moment.result)) sent) (sym c.self.view_is) ∙ sym c.in_ok-hold.ensures.terms in
    let Done : ℤ → Type 0 = λ t. Does book c.book_hold.new.self c.book_hold.result (hold_booked book (by c.args.actor t) (growth_of c.book_hold.result) (hold_fitted book c.in_ok-hold.hold)) in
    hold_termed book c.book_hold.new.self (by c.args.actor c.args.now) sent (growth_of c.book_hold.result) c.book_hold.result c.in_ok-hold.hold
    (subst Termed moment terms) (subst Done (to_z-of_z w64 c.args.now fits) c.book_hold.ensures.step)

-- the terms that were refused are those at the moment of the call
pub returns-in_err-hold-clause-step : goal.returns-in_err-hold-clause-step
returns-in_err-hold-clause-step g c =
    let book = c.args.self.now in
    let sent = given_route c.args.from (plain_prepare c.args.prepare.now) c.args.route in
    let fits : FitsSigned w64 c.args.now = search rules in
    let moment_fits : FitsSigned w64 c.moment_at-moment.result = search rules in
    let moment = to_z-of_z w64 c.moment_at-moment.result moment_fits ∙ c.moment_at-moment.ensures.moment ∙ ap (λ (t : ℤ). moment_at book.entries t) (to_z-of_z w64 c.args.now fits) in
    let fault = c.in_err-hold.field-0.0 in
    let Refused : ℤ → Type 0 = λ t. hold_terms book.config t sent ≡ Err fault in
    let terms : Refused (to_z w64 (of_z w64 c.moment_at-moment.result)) = ap (λ (b : PlainBook). hold_terms b.config (to_z w64 (of_z w64 c.moment_at-moment.result)) sent) (sym c.self.view_is) ∙ sym c.in_err-hold.ensures.terms in
    let told = err_is c.from_residual.result fault c.from_residual.ensures.1 in
    let Done : Result Held HoldFault → Type 0 = λ r. Does book book r (hold_step book (by c.args.actor c.args.now) sent (growth_of r)) in
    subst Done (sym told) (hold_refused book (by c.args.actor c.args.now) sent (growth_of (Err fault)) fault (subst Refused moment terms))
  where
    err_is : (r : Result Held HoldFault) (fault : HoldFault) → IsErrAnd r (λ e. e ≡ fault) → r ≡ Err fault
    err_is (Ok x) fault e = absurd e
    err_is (Err x) fault e = ap Err e
