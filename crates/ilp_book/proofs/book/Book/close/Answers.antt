use Rattle.std.proofs.Common.{sym, subst}
use Rattle.ilp_journal.proofs.Bases.{base-push}
use Rattle.ilp_rules.specs.Book.{PlainBook, pushed}
use Rattle.ilp_rules.specs.Lawful.{IsLawful}
use Rattle.ilp_rules.specs.Parts.{book_of}
use Rattle.ilp_rules.proofs.Keeping.{end_fits, names_ask, names_hold, opens_none, is_next, parts_closed}
use Rattle.ilp_book.proofs.book.Book.close.Goals as goal

pub apply-requires-clause-few : goal.apply-requires-clause-few
apply-requires-clause-few g c =
    let P : PlainBook → Type 0 = λ b. IsLawful (pushed b c.args.ending) in
    let lawful = subst P (sym c.self.view_is) c.requires.lawful in
    let fits = end_fits c.self.inside.config c.self.inside.period c.self.inside.base c.self.inside.journal c.self.inside.tables.tallies c.self.inside.tables.holds c.self.inside.tables.keys c.args.ending c.self.invariant.0 lawful c.requires.ends in
    let next = is_next c.self.inside.config c.self.inside.period c.self.inside.base c.self.inside.journal c.self.inside.tables.tallies c.self.inside.tables.holds c.self.inside.tables.keys c.args.ending c.self.invariant.0 lawful fits.1 in
    next.few

pub apply-requires-clause-known : goal.apply-requires-clause-known
apply-requires-clause-known g c =
    let P : PlainBook → Type 0 = λ b. IsLawful (pushed b c.args.ending) in
    let lawful = subst P (sym c.self.view_is) c.requires.lawful in
    let fits = end_fits c.self.inside.config c.self.inside.period c.self.inside.base c.self.inside.journal c.self.inside.tables.tallies c.self.inside.tables.holds c.self.inside.tables.keys c.args.ending c.self.invariant.0 lawful c.requires.ends in
    let next = is_next c.self.inside.config c.self.inside.period c.self.inside.base c.self.inside.journal c.self.inside.tables.tallies c.self.inside.tables.holds c.self.inside.tables.keys c.args.ending c.self.invariant.0 lawful fits.1 in
    next.known

pub apply-requires-clause-tallies : goal.apply-requires-clause-tallies
apply-requires-clause-tallies g c =
    let P : PlainBook → Type 0 = λ b. IsLawful (pushed b c.args.ending) in
    let lawful = subst P (sym c.self.view_is) c.requires.lawful in
    let fits = end_fits c.self.inside.config c.self.inside.period c.self.inside.base c.self.inside.journal c.self.inside.tables.tallies c.self.inside.tables.holds c.self.inside.tables.keys c.args.ending c.self.invariant.0 lawful c.requires.ends in
    let next = is_next c.self.inside.config c.self.inside.period c.self.inside.base c.self.inside.journal c.self.inside.tables.tallies c.self.inside.tables.holds c.self.inside.tables.keys c.args.ending c.self.invariant.0 lawful fits.1 in
    next.tallied

pub apply-requires-clause-length : goal.apply-requires-clause-length
apply-requires-clause-length g c =
    let P : PlainBook → Type 0 = λ b. IsLawful (pushed b c.args.ending) in
    let lawful = subst P (sym c.self.view_is) c.requires.lawful in
    let fits = end_fits c.self.inside.config c.self.inside.period c.self.inside.base c.self.inside.journal c.self.inside.tables.tallies c.self.inside.tables.holds c.self.inside.tables.keys c.args.ending c.self.invariant.0 lawful c.requires.ends in
    let next = is_next c.self.inside.config c.self.inside.period c.self.inside.base c.self.inside.journal c.self.inside.tables.tallies c.self.inside.tables.holds c.self.inside.tables.keys c.args.ending c.self.invariant.0 lawful fits.1 in
    next.longer

pub apply-requires-clause-answers : goal.apply-requires-clause-answers
apply-requires-clause-answers g c =
    let P : PlainBook → Type 0 = λ b. IsLawful (pushed b c.args.ending) in
    let lawful = subst P (sym c.self.view_is) c.requires.lawful in
    let fits = end_fits c.self.inside.config c.self.inside.period c.self.inside.base c.self.inside.journal c.self.inside.tables.tallies c.self.inside.tables.holds c.self.inside.tables.keys c.args.ending c.self.invariant.0 lawful c.requires.ends in
    let next = is_next c.self.inside.config c.self.inside.period c.self.inside.base c.self.inside.journal c.self.inside.tables.tallies c.self.inside.tables.holds c.self.inside.tables.keys c.args.ending c.self.invariant.0 lawful fits.1 in
    next.answers

pub apply-requires-clause-closings : goal.apply-requires-clause-closings
apply-requires-clause-closings g c =
    let P : PlainBook → Type 0 = λ b. IsLawful (pushed b c.args.ending) in
    let lawful = subst P (sym c.self.view_is) c.requires.lawful in
    let fits = end_fits c.self.inside.config c.self.inside.period c.self.inside.base c.self.inside.journal c.self.inside.tables.tallies c.self.inside.tables.holds c.self.inside.tables.keys c.args.ending c.self.invariant.0 lawful c.requires.ends in
    let next = is_next c.self.inside.config c.self.inside.period c.self.inside.base c.self.inside.journal c.self.inside.tables.tallies c.self.inside.tables.holds c.self.inside.tables.keys c.args.ending c.self.invariant.0 lawful fits.1 in
    next.closings

pub apply-requires-clause-answer : goal.apply-requires-clause-answer
apply-requires-clause-answer g c =
    let P : PlainBook → Type 0 = λ b. IsLawful (pushed b c.args.ending) in
    let lawful = subst P (sym c.self.view_is) c.requires.lawful in
    let fits = end_fits c.self.inside.config c.self.inside.period c.self.inside.base c.self.inside.journal c.self.inside.tables.tallies c.self.inside.tables.holds c.self.inside.tables.keys c.args.ending c.self.invariant.0 lawful c.requires.ends in
    let next = is_next c.self.inside.config c.self.inside.period c.self.inside.base c.self.inside.journal c.self.inside.tables.tallies c.self.inside.tables.holds c.self.inside.tables.keys c.args.ending c.self.invariant.0 lawful fits.1 in
    next.answer

pub apply-requires-clause-closing : goal.apply-requires-clause-closing
apply-requires-clause-closing g c =
    let P : PlainBook → Type 0 = λ b. IsLawful (pushed b c.args.ending) in
    let lawful = subst P (sym c.self.view_is) c.requires.lawful in
    let fits = end_fits c.self.inside.config c.self.inside.period c.self.inside.base c.self.inside.journal c.self.inside.tables.tallies c.self.inside.tables.holds c.self.inside.tables.keys c.args.ending c.self.invariant.0 lawful c.requires.ends in
    let next = is_next c.self.inside.config c.self.inside.period c.self.inside.base c.self.inside.journal c.self.inside.tables.tallies c.self.inside.tables.holds c.self.inside.tables.keys c.args.ending c.self.invariant.0 lawful fits.1 in
    next.closes

pub apply-requires-clause-absent : goal.apply-requires-clause-absent
apply-requires-clause-absent g c =
    let P : PlainBook → Type 0 = λ b. IsLawful (pushed b c.args.ending) in
    let lawful = subst P (sym c.self.view_is) c.requires.lawful in
    let fits = end_fits c.self.inside.config c.self.inside.period c.self.inside.base c.self.inside.journal c.self.inside.tables.tallies c.self.inside.tables.holds c.self.inside.tables.keys c.args.ending c.self.invariant.0 lawful c.requires.ends in
    let next = is_next c.self.inside.config c.self.inside.period c.self.inside.base c.self.inside.journal c.self.inside.tables.tallies c.self.inside.tables.holds c.self.inside.tables.keys c.args.ending c.self.invariant.0 lawful fits.1 in
    next.absent

pub apply-requires-clause-room : goal.apply-requires-clause-room
apply-requires-clause-room g c =
    let P : PlainBook → Type 0 = λ b. IsLawful (pushed b c.args.ending) in
    let lawful = subst P (sym c.self.view_is) c.requires.lawful in
    λ hold. absurd (opens_none c.args.ending.what c.requires.ends hold)

pub push_reserved-requires-clause-room : goal.push_reserved-requires-clause-room
push_reserved-requires-clause-room g c =
    let P : PlainBook → Type 0 = λ b. IsLawful (pushed b c.args.ending) in
    let lawful = subst P (sym c.self.view_is) c.requires.lawful in
    let fits = end_fits c.self.inside.config c.self.inside.period c.self.inside.base c.self.inside.journal c.self.inside.tables.tallies c.self.inside.tables.holds c.self.inside.tables.keys c.args.ending c.self.invariant.0 lawful c.requires.ends in
    fits.0

pub push_reserved-requires-clause-limit : goal.push_reserved-requires-clause-limit
push_reserved-requires-clause-limit g c =
    let P : PlainBook → Type 0 = λ b. IsLawful (pushed b c.args.ending) in
    let lawful = subst P (sym c.self.view_is) c.requires.lawful in
    let fits = end_fits c.self.inside.config c.self.inside.period c.self.inside.base c.self.inside.journal c.self.inside.tables.tallies c.self.inside.tables.holds c.self.inside.tables.keys c.args.ending c.self.invariant.0 lawful c.requires.ends in
    fits.1

pub push_reserved-requires-clause-answers : goal.push_reserved-requires-clause-answers
push_reserved-requires-clause-answers g c =
    let P : PlainBook → Type 0 = λ b. IsLawful (pushed b c.args.ending) in
    let lawful = subst P (sym c.self.view_is) c.requires.lawful in
    names_hold (book_of c.self.inside.config c.self.inside.period c.self.inside.base c.self.inside.journal) c.args.ending lawful

pub push_reserved-requires-clause-closes : goal.push_reserved-requires-clause-closes
push_reserved-requires-clause-closes g c =
    let P : PlainBook → Type 0 = λ b. IsLawful (pushed b c.args.ending) in
    let lawful = subst P (sym c.self.view_is) c.requires.lawful in
    names_ask (book_of c.self.inside.config c.self.inside.period c.self.inside.base c.self.inside.journal) c.args.ending lawful

pub invariant_of-self : goal.invariant_of-self
invariant_of-self g c =
    let P : PlainBook → Type 0 = λ b. IsLawful (pushed b c.args.ending) in
    let lawful = subst P (sym c.self.view_is) c.requires.lawful in (
      parts_closed c.self.inside.config c.self.inside.period c.self.inside.base c.self.inside.journal c.push_reserved.new.self c.self.inside.tables.tallies c.apply.new.self.tallies c.self.inside.tables.holds c.apply.new.self.holds c.self.inside.tables.keys c.apply.new.self.keys
          c.args.ending c.self.invariant.0 lawful c.requires.ends c.push_reserved.ensures.entries c.push_reserved.ensures.used c.push_reserved.ensures.limit c.apply.ensures.tallies c.apply.ensures.holds c.apply.ensures.keys,
      rw c.push_reserved.ensures.entries (base-push c.self.inside.journal.entries c.args.ending c.self.inside.base c.self.invariant.1),
    )
