use Rattle.std.proofs.Common.{sym, subst}
use Rattle.ilp_rules.specs.Book.{PlainBook, pushed}
use Rattle.ilp_rules.specs.Judging.{behind_all}
use Rattle.ilp_rules.specs.Lawful.{IsLawful}
use Rattle.ilp_rules.specs.Parts.{book_of}
use Rattle.ilp_rules.proofs.CarriedParts.{carried_fits, carried_end_fits, carried_next, carried_closed}
use Rattle.ilp_rules.proofs.Keeping.{names_hold, names_ask}
use Rattle.ilp_rules.proofs.carrying.Carrying.close.Goals as goal

pub apply-requires : goal.apply-requires
apply-requires g c =
    let P : PlainBook → Type 0 = λ b. IsLawful (pushed b c.args.ending) in
    let lawful = subst P (sym c.self.view_is) c.requires.lawful in
    let inside = c.self.inside in
    let next = carried_next inside.config inside.period inside.journal inside.tables.tallies inside.tables.holds inside.tables.keys c.args.ending c.self.invariant lawful in
    record {
      tallies = next.tallied;
      room = next.longer;
      few = next.few;
      known = next.known;
      answers = next.answers;
      closings = next.closings;
      answer = next.answer;
      closing = next.closes;
    }

pub push_reserved-requires : goal.push_reserved-requires
push_reserved-requires g c =
    let P : PlainBook → Type 0 = λ b. IsLawful (pushed b c.args.ending) in
    let lawful = subst P (sym c.self.view_is) c.requires.lawful in
    let inside = c.self.inside in
    let book = book_of inside.config inside.period behind_all inside.journal in
    record {
      room = carried_end_fits inside.config inside.period inside.journal inside.tables.tallies inside.tables.holds inside.tables.keys c.args.ending c.self.invariant lawful c.requires.ends;
      limit = carried_fits inside.config inside.period inside.journal inside.tables.tallies inside.tables.holds inside.tables.keys c.args.ending c.self.invariant lawful;
      answers = names_hold book c.args.ending lawful;
      closes = names_ask book c.args.ending lawful;
    }

pub invariant_of-self : goal.invariant_of-self
invariant_of-self g c =
    let P : PlainBook → Type 0 = λ b. IsLawful (pushed b c.args.ending) in
    let lawful = subst P (sym c.self.view_is) c.requires.lawful in
    let inside = c.self.inside in
    carried_closed inside.config inside.period inside.journal c.push_reserved.new.self inside.tables.tallies c.apply.new.self inside.tables.holds inside.tables.keys c.args.ending c.self.invariant lawful
    c.requires.ends c.push_reserved.ensures.entries c.push_reserved.ensures.used c.push_reserved.ensures.limit c.apply.ensures
