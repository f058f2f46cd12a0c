use Rattle.std.proofs.Common.{pos, sym, subst, ◌∙◌, rules, to_z, of_z, to_z-of_z}
use Rattle.std.specs.Prelude.{◌≤ℤ◌, FitsSigned}
use Rattle.std.specs.Int.{w64}
use Rattle.ilp_terms.specs.Expiry.{last_of_all}
use Rattle.ilp_journal.specs.declared.entry.What.TheVariants as what
use Rattle.ilp_rules.specs.Book.{by}
use Rattle.ilp_rules.specs.Parts.{book_of}
use Rattle.ilp_rules.proofs.InTime.{in_time}
use Rattle.ilp_book.proofs.book.Book.moment_at.Goals as goal

-- an entry of a lawful book at this moment would be in time
pub returns-clause-last : goal.returns-clause-last
returns-clause-last g c =
    let fits : FitsSigned w64 c.moment_at.result = search rules in
    let timely = in_time (book_of c.self.inside.config c.self.inside.period c.self.inside.base c.self.inside.journal) (by 0 (to_z w64 (of_z w64 c.args.now))) (what.Confirmed 0) c.self.invariant.0.lawful in
    subst (λ m. m ≤ℤ last_of_all) (sym (to_z-of_z fits ∙ c.moment_at.ensures)) timely.last

pub returns-clause-first : goal.returns-clause-first
returns-clause-first g c =
    let fits : FitsSigned w64 c.moment_at.result = search rules in
    let timely = in_time (book_of c.self.inside.config c.self.inside.period c.self.inside.base c.self.inside.journal) (by 0 (to_z w64 (of_z w64 c.args.now))) (what.Confirmed 0) c.self.invariant.0.lawful in
    subst (λ m. pos 0 ≤ℤ m) (sym (to_z-of_z fits ∙ c.moment_at.ensures)) timely.first
