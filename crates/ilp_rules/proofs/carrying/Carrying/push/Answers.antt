use Rattle.std.proofs.Common.{sym, subst, ◌∙◌, arith}
use Rattle.ilp_rules.specs.Book.{PlainBook, pushed}
use Rattle.ilp_rules.specs.Configured.{peer_assets}
use Rattle.ilp_rules.specs.Judging.{behind_all}
use Rattle.ilp_rules.specs.Lawful.{IsLawful}
use Rattle.ilp_rules.specs.Parts.{book_of}
use Rattle.ilp_rules.specs.CreditTables.{KeepsKey}
use Rattle.ilp_rules.proofs.CarriedParts.{carried_fits, carried_next, carried_grown}
use Rattle.ilp_rules.proofs.Keeping.{names_hold, names_ask, still_next}
use Rattle.ilp_rules.proofs.carrying.Carrying.push.Goals as goal

pub apply-requires : goal.apply-requires
apply-requires g c =
    let P : PlainBook → Type 0 = λ b. IsLawful (pushed b c.args.entry) in
    let lawful = subst P (sym c.self.view_is) c.requires.lawful in
    let inside = c.self.inside in
    let next = still_next inside.journal.entries c.reserve.new.self.entries inside.tables.tallies c.prepare.new.self.tallies inside.tables.holds.map c.prepare.new.self.holds.map c.args.entry
    c.in_ok-reserve.ensures.entries c.in_ok-prepare.ensures.tallies c.in_ok-prepare.ensures.holds
    (carried_next inside.config inside.period inside.journal inside.tables.tallies inside.tables.holds inside.tables.keys c.args.entry c.self.invariant lawful) in
    record {
      tallies = next.tallied;
      room = next.longer;
      few = next.few;
      known = next.known;
      answers = next.answers;
      closings = next.closings;
      answer = next.answer;
      closing = next.closes;
    }

pub push_reserved-requires-clause-limit : goal.push_reserved-requires-clause-limit
push_reserved-requires-clause-limit g c =
    let P : PlainBook → Type 0 = λ b. IsLawful (pushed b c.args.entry) in
    let lawful = subst P (sym c.self.view_is) c.requires.lawful in
    let fits = carried_fits c.self.inside.config c.self.inside.period c.self.inside.journal c.self.inside.tables.tallies c.self.inside.tables.holds c.self.inside.tables.keys c.args.entry c.self.invariant lawful in
    rw (c.in_ok-reserve.ensures.entries, c.in_ok-reserve.ensures.limit) fits

pub push_reserved-requires-clause-answers : goal.push_reserved-requires-clause-answers
push_reserved-requires-clause-answers g c =
    let P : PlainBook → Type 0 = λ b. IsLawful (pushed b c.args.entry) in
    let lawful = subst P (sym c.self.view_is) c.requires.lawful in
    rw c.in_ok-reserve.ensures.entries (names_hold (book_of c.self.inside.config c.self.inside.period behind_all c.self.inside.journal) c.args.entry lawful)

pub push_reserved-requires-clause-closes : goal.push_reserved-requires-clause-closes
push_reserved-requires-clause-closes g c =
    let P : PlainBook → Type 0 = λ b. IsLawful (pushed b c.args.entry) in
    let lawful = subst P (sym c.self.view_is) c.requires.lawful in
    rw c.in_ok-reserve.ensures.entries (names_ask (book_of c.self.inside.config c.self.inside.period behind_all c.self.inside.journal) c.args.entry lawful)

pub invariant_of-self-2 : goal.invariant_of-self-2
invariant_of-self-2 g c =
    let P : PlainBook → Type 0 = λ b. IsLawful (pushed b c.args.entry) in
    let lawful = subst P (sym c.self.view_is) c.requires.lawful in
    let counted = c.open_count-open_count.ensures (peer_assets c.self.inside.config) behind_all c.self.inside.journal.entries c.self.invariant.tallied in
    carried_grown c.self.inside.config c.self.inside.period c.self.inside.journal c.reserve.new.self c.push_reserved.new.self c.self.inside.tables.tallies c.prepare.new.self.tallies c.apply.new.self
    c.self.inside.tables.holds c.prepare.new.self.holds c.self.inside.tables.keys c.prepare.new.self.keys c.args.entry c.self.invariant lawful
    c.in_ok-reserve.ensures.entries c.push_reserved.ensures.entries
    (omega (arith, c.in_ok-reserve.ensures.ok, c.push_reserved.ensures.used, counted)) (c.push_reserved.ensures.limit ∙ c.in_ok-reserve.ensures.limit)
    c.in_ok-prepare.ensures.tallies c.apply.ensures c.in_ok-prepare.ensures.holds
    (subst (λ n. KeepsKey c.self.inside.tables.keys c.prepare.new.self.keys n c.args.entry.what) c.len-number.ensures.count c.in_ok-prepare.ensures.keys)
