use Rattle.std.proofs.Common.{ℤ, pos, sym, ap, ◌∙◌, subst, arith, rules, to_z, of_z}
use Rattle.std.specs.Prelude.{◌≤ℤ◌, FitsSigned}
use Rattle.std.specs.Int.{w128}
use Rattle.std.proofs.lemmas.Int.{ints, to_z-of_z}
use Rattle.ilp_journal.specs.Booked.{most_sum}
use Rattle.ilp_journal.specs.TrialBalance.{IsBalanced, held, settled}
use Rattle.ilp_rules.specs.Book.{PlainBook}
use Rattle.ilp_rules.specs.Configured.{peer_assets}
use Rattle.ilp_rules.specs.Parts.{book_of}
use Rattle.ilp_book.specs.Sums.{IsWithin}
use Rattle.ilp_rules.proofs.Rules.{lawful_balanced}
use Rattle.ilp_book.proofs.book.Book.sums.Goals as goal

-- a lawful book is balanced
pub returns-clause-balanced : goal.returns-clause-balanced
returns-clause-balanced g c =
    let Balanced : PlainBook → Type 0 = λ b. IsBalanced (peer_assets b.config) b.entries c.args.asset in
    subst Balanced c.self.view_is (lawful_balanced (book_of c.self.inside.config c.self.inside.period c.self.inside.base c.self.inside.journal) c.args.asset c.self.invariant.0.lawful)

-- each sum is its tally
pub returns-clause-settled : goal.returns-clause-settled
returns-clause-settled g c =
    let fits : FitsSigned w128 c.settled.result = search rules in
    to_z-of_z w128 c.settled.result fits ∙ c.settled.ensures.value (peer_assets c.self.inside.config) c.self.inside.base c.self.inside.journal.entries c.self.invariant.0.tabled.tallied
    ∙ ap (λ (b : PlainBook). settled (peer_assets b.config) b.entries c.args.asset) c.self.view_is

pub returns-clause-held : goal.returns-clause-held
returns-clause-held g c =
    let fits : FitsSigned w128 c.held.result = search rules in
    to_z-of_z w128 c.held.result fits ∙ c.held.ensures.value (peer_assets c.self.inside.config) c.self.inside.base c.self.inside.journal.entries c.self.invariant.0.tabled.tallied
    ∙ ap (λ (b : PlainBook). pos (held (peer_assets b.config) b.entries c.args.asset)) c.self.view_is

-- no sum lies further from 0 than its tally
pub returns-clause-within : goal.returns-clause-within
returns-clause-within g c =
    let settled_fits : FitsSigned w128 c.settled.result = search rules in
    let held_fits : FitsSigned w128 c.held.result = search rules in
    let fees_fits : FitsSigned w128 c.fees.result = search rules in
    let bought_fits : FitsSigned w128 c.bought.result = search rules in
    let sold_fits : FitsSigned w128 c.sold.result = search rules in
    record {
      settled = told c.settled.result settled_fits (record { low = c.settled.ensures.low; high = c.settled.ensures.high });
      held = told c.held.result held_fits (positive c.held.result c.held.ensures.low c.held.ensures.high);
      fees = told c.fees.result fees_fits (positive c.fees.result c.fees.ensures.low c.fees.ensures.high);
      bought = told c.bought.result bought_fits (record { low = c.bought.ensures.low; high = c.bought.ensures.high });
      sold = told c.sold.result sold_fits (positive c.sold.result c.sold.ensures.low c.sold.ensures.high);
    }
  where
    told : (n : ℤ) → FitsSigned w128 n → IsWithin n → IsWithin (to_z w128 (of_z w128 n))
    told n fits = subst IsWithin (sym (to_z-of_z w128 n fits))

    positive : (n : ℤ) → pos 0 ≤ℤ n → n ≤ℤ pos most_sum → IsWithin n
    positive n low high = record { low = omega (arith, ints); high = high }
