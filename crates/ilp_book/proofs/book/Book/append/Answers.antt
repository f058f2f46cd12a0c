use Rattle.std.proofs.Common.{sym, subst, ◌∙◌, arith}
use Rattle.ilp_journal.proofs.Bases.{base-push}
use Rattle.ilp_rules.specs.Book.{PlainBook, pushed}
use Rattle.ilp_rules.specs.Configured.{peer_assets}
use Rattle.ilp_rules.specs.Lawful.{IsLawful}
use Rattle.ilp_rules.specs.CreditTables.{KeepsKey}
use Rattle.ilp_rules.proofs.Keeping.{grown_fits, is_next, still_next, parts_grown}
use Rattle.ilp_book.proofs.book.Book.append.Goals as goal

pub apply-requires-clause-few : goal.apply-requires-clause-few
apply-requires-clause-few g c =
    let P : PlainBook → Type 0 = λ b. IsLawful (pushed b c.args.entry) in
    let lawful = subst P (sym c.self.view_is) c.requires.lawful in
    let fits = grown_fits c.self.inside.config c.self.inside.period c.self.inside.base c.self.inside.journal c.self.inside.tables.tallies c.self.inside.tables.holds c.self.inside.tables.keys c.args.opened c.args.entry c.self.invariant.0 lawful c.requires.ends_nothing c.requires.opened in
    let next = still_next c.self.inside.journal.entries c.reserve.new.self.entries c.self.inside.tables.tallies c.prepare.new.self.tallies c.self.inside.tables.holds.map c.prepare.new.self.holds.map c.args.entry
    c.in_ok-reserve.ensures.entries c.in_ok-prepare.ensures.tallies c.in_ok-prepare.ensures.holds (is_next c.self.inside.config c.self.inside.period c.self.inside.base c.self.inside.journal c.self.inside.tables.tallies c.self.inside.tables.holds c.self.inside.tables.keys c.args.entry c.self.invariant.0 lawful fits.0) in
    next.few

pub apply-requires-clause-known : goal.apply-requires-clause-known
apply-requires-clause-known g c =
    let P : PlainBook → Type 0 = λ b. IsLawful (pushed b c.args.entry) in
    let lawful = subst P (sym c.self.view_is) c.requires.lawful in
    let fits = grown_fits c.self.inside.config c.self.inside.period c.self.inside.base c.self.inside.journal c.self.inside.tables.tallies c.self.inside.tables.holds c.self.inside.tables.keys c.args.opened c.args.entry c.self.invariant.0 lawful c.requires.ends_nothing c.requires.opened in
    let next = still_next c.self.inside.journal.entries c.reserve.new.self.entries c.self.inside.tables.tallies c.prepare.new.self.tallies c.self.inside.tables.holds.map c.prepare.new.self.holds.map c.args.entry
    c.in_ok-reserve.ensures.entries c.in_ok-prepare.ensures.tallies c.in_ok-prepare.ensures.holds (is_next c.self.inside.config c.self.inside.period c.self.inside.base c.self.inside.journal c.self.inside.tables.tallies c.self.inside.tables.holds c.self.inside.tables.keys c.args.entry c.self.invariant.0 lawful fits.0) in
    next.known

pub apply-requires-clause-absent : goal.apply-requires-clause-absent
apply-requires-clause-absent g c =
    let P : PlainBook → Type 0 = λ b. IsLawful (pushed b c.args.entry) in
    let lawful = subst P (sym c.self.view_is) c.requires.lawful in
    let fits = grown_fits c.self.inside.config c.self.inside.period c.self.inside.base c.self.inside.journal c.self.inside.tables.tallies c.self.inside.tables.holds c.self.inside.tables.keys c.args.opened c.args.entry c.self.invariant.0 lawful c.requires.ends_nothing c.requires.opened in
    let next = still_next c.self.inside.journal.entries c.reserve.new.self.entries c.self.inside.tables.tallies c.prepare.new.self.tallies c.self.inside.tables.holds.map c.prepare.new.self.holds.map c.args.entry
    c.in_ok-reserve.ensures.entries c.in_ok-prepare.ensures.tallies c.in_ok-prepare.ensures.holds (is_next c.self.inside.config c.self.inside.period c.self.inside.base c.self.inside.journal c.self.inside.tables.tallies c.self.inside.tables.holds c.self.inside.tables.keys c.args.entry c.self.invariant.0 lawful fits.0) in
    next.absent

pub apply-requires-clause-answers : goal.apply-requires-clause-answers
apply-requires-clause-answers g c =
    let P : PlainBook → Type 0 = λ b. IsLawful (pushed b c.args.entry) in
    let lawful = subst P (sym c.self.view_is) c.requires.lawful in
    let fits = grown_fits c.self.inside.config c.self.inside.period c.self.inside.base c.self.inside.journal c.self.inside.tables.tallies c.self.inside.tables.holds c.self.inside.tables.keys c.args.opened c.args.entry c.self.invariant.0 lawful c.requires.ends_nothing c.requires.opened in
    let next = still_next c.self.inside.journal.entries c.reserve.new.self.entries c.self.inside.tables.tallies c.prepare.new.self.tallies c.self.inside.tables.holds.map c.prepare.new.self.holds.map c.args.entry
    c.in_ok-reserve.ensures.entries c.in_ok-prepare.ensures.tallies c.in_ok-prepare.ensures.holds (is_next c.self.inside.config c.self.inside.period c.self.inside.base c.self.inside.journal c.self.inside.tables.tallies c.self.inside.tables.holds c.self.inside.tables.keys c.args.entry c.self.invariant.0 lawful fits.0) in
    next.answers

pub apply-requires-clause-closings : goal.apply-requires-clause-closings
apply-requires-clause-closings g c =
    let P : PlainBook → Type 0 = λ b. IsLawful (pushed b c.args.entry) in
    let lawful = subst P (sym c.self.view_is) c.requires.lawful in
    let fits = grown_fits c.self.inside.config c.self.inside.period c.self.inside.base c.self.inside.journal c.self.inside.tables.tallies c.self.inside.tables.holds c.self.inside.tables.keys c.args.opened c.args.entry c.self.invariant.0 lawful c.requires.ends_nothing c.requires.opened in
    let next = still_next c.self.inside.journal.entries c.reserve.new.self.entries c.self.inside.tables.tallies c.prepare.new.self.tallies c.self.inside.tables.holds.map c.prepare.new.self.holds.map c.args.entry
    c.in_ok-reserve.ensures.entries c.in_ok-prepare.ensures.tallies c.in_ok-prepare.ensures.holds (is_next c.self.inside.config c.self.inside.period c.self.inside.base c.self.inside.journal c.self.inside.tables.tallies c.self.inside.tables.holds c.self.inside.tables.keys c.args.entry c.self.invariant.0 lawful fits.0) in
    next.closings

pub push_reserved-requires-clause-limit : goal.push_reserved-requires-clause-limit
push_reserved-requires-clause-limit g c =
    let P : PlainBook → Type 0 = λ b. IsLawful (pushed b c.args.entry) in
    let lawful = subst P (sym c.self.view_is) c.requires.lawful in
    let fits = grown_fits c.self.inside.config c.self.inside.period c.self.inside.base c.self.inside.journal c.self.inside.tables.tallies c.self.inside.tables.holds c.self.inside.tables.keys c.args.opened c.args.entry c.self.invariant.0 lawful c.requires.ends_nothing c.requires.opened in
    rw (c.in_ok-reserve.ensures.entries, c.in_ok-reserve.ensures.limit) fits.0

pub invariant_of-self-2 : goal.invariant_of-self-2
invariant_of-self-2 g c =
    let P : PlainBook → Type 0 = λ b. IsLawful (pushed b c.args.entry) in
    let lawful = subst P (sym c.self.view_is) c.requires.lawful in
    let counted = c.open_count-open_count.ensures (peer_assets c.self.inside.config) c.self.inside.base c.self.inside.journal.entries c.self.invariant.0.tabled.tallied in (
      parts_grown c.self.inside.config c.self.inside.period c.self.inside.base c.self.inside.journal c.reserve.new.self c.push_reserved.new.self c.self.inside.tables.tallies c.prepare.new.self.tallies c.apply.new.self.tallies
          c.self.inside.tables.holds c.prepare.new.self.holds c.apply.new.self.holds c.self.inside.tables.keys c.prepare.new.self.keys c.apply.new.self.keys c.args.opened c.args.entry c.self.invariant.0 lawful
          (omega (arith, c.requires.opened)) c.in_ok-reserve.ensures.entries c.push_reserved.ensures.entries
          (omega (arith, c.in_ok-reserve.ensures.ok, c.push_reserved.ensures.used, c.from.ensures, c.from-2.ensures, counted)) (c.push_reserved.ensures.limit ∙ c.in_ok-reserve.ensures.limit)
          c.in_ok-prepare.ensures.tallies c.apply.ensures.tallies c.in_ok-prepare.ensures.holds c.apply.ensures.holds
          (subst (λ n. KeepsKey c.self.inside.tables.keys c.prepare.new.self.keys n c.args.entry.what) c.len-number.ensures.count c.in_ok-prepare.ensures.keys) c.apply.ensures.keys,
      rw (c.push_reserved.ensures.entries, c.in_ok-reserve.ensures.entries) (base-push c.self.inside.journal.entries c.args.entry c.self.inside.base c.self.invariant.1),
    )
