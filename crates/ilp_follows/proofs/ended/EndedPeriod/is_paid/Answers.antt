use Rattle.std.proofs.Common.{◌≡◌, true, false, refl, sym, ◌∙◌, arith}
use Rattle.ilp_follows.specs.Follows.{is_unpaid_at}
use Rattle.ilp_follows.proofs.Standing.{all_paid, one_unpaid}
use Rattle.ilp_follows.proofs.ended.EndedPeriod.is_paid.Goals as goal

-- this one is open
pub returns-then-is_unpaid_by : goal.returns-then-is_unpaid_by
returns-then-is_unpaid_by c =
    let found : is_unpaid_at c.args.self.now.entries c.args.peer c.loop-number.number ≡ true = sym c.is_unpaid_by.ensures ∙ c.if-is_unpaid_by.true in
    (λ is. cc, λ paid. absurd (one_unpaid c.args.self.now.entries c.args.peer c.loop-number.number found paid))

-- all were looked at
pub returns : goal.returns
returns c =
    let none = all_paid c.args.self.now.entries c.args.peer c.loop-number.number (omega (arith, c.len-number-end.ensures, c.loop-number-test.false)) c.loop-number.invariant in
    (λ is. none, λ paid. refl)
