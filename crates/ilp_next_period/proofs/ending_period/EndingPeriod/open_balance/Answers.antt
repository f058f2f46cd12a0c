use Rattle.std.proofs.Common.{◌≡◌, Some, None, Option, w64, option_map, arith, rules, sym, subst}
use Rattle.std.specs.Prelude.{FitsSigned}
use Rattle.std.proofs.lemmas.Int.{to_z-of_z}
use Rattle.ilp_journal.specs.declared.entry.What.{What}
use Rattle.ilp_journal.specs.BroughtForward.{earlier_balance, earlier_place, head_entry}
use Rattle.ilp_rules.specs.Book.{moment_at}
use Rattle.ilp_next_period.specs.NextPeriod.{ComesNext, next_opening, places_by_name}
use Rattle.ilp_next_period.proofs.NextEntries.{entry_some, entry_none, opens_nothing, stays}
use Rattle.ilp_next_period.proofs.ending_period.EndingPeriod.open_balance.Goals as goal

pub earlier_balance-balance-requires-clause-may : goal.earlier_balance-balance-requires-clause-may
earlier_balance-balance-requires-clause-may g c = c.requires.left.1.may

-- what is booked is what comes next
pub take_next-requires-clause-left : goal.take_next-requires-clause-left
take_next-requires-clause-left g c =
    let fits : FitsSigned w64 c.args.now = search rules in
    let moment = moment_at c.args.self.now.entries c.args.now in
    let is : Some c.in-Some.entry ≡ option_map (head_entry moment) (next_opening c.args.self.now c.args.config.now c.args.place) = search rules in
    rw (to_z-of_z w64 c.args.now fits)
    (subst (λ (o : Option What). ComesNext c.args.self.now c.args.config.now c.args.now o c.args.next.now)
    (entry_some moment (next_opening c.args.self.now c.args.config.now c.args.place) c.in-Some.entry is).0 c.requires.left)

pub take_next-requires-clause-booked : goal.take_next-requires-clause-booked
take_next-requires-clause-booked g c =
    let fits : FitsSigned w64 c.args.now = search rules in
    let moment = moment_at c.args.self.now.entries c.args.now in
    let is : Some c.in-Some.entry ≡ option_map (head_entry moment) (next_opening c.args.self.now c.args.config.now c.args.place) = search rules in
    rw (to_z-of_z w64 c.args.now fits)
    (entry_some moment (next_opening c.args.self.now c.args.config.now c.args.place) c.in-Some.entry is).1

-- it opens no settlement
pub take_next-requires-clause-room : goal.take_next-requires-clause-room
take_next-requires-clause-room g c =
    let moment = moment_at c.args.self.now.entries c.args.now in
    let is : Some c.in-Some.entry ≡ option_map (head_entry moment) (next_opening c.args.self.now c.args.config.now c.args.place) = search rules in
    omega (
      arith,
      opens_nothing c.args.place (earlier_balance c.args.self.now.entries (earlier_place (places_by_name c.args.self.now.config c.args.config.now) c.args.place)) c.in-Some.entry.what
          (entry_some moment (next_opening c.args.self.now c.args.config.now c.args.place) c.in-Some.entry is).0,
    )

pub returns-in-Some-clause-ok : goal.returns-in-Some-clause-ok
returns-in-Some-clause-ok g c =
    let fits : FitsSigned w64 c.args.now = search rules in
    let moment = moment_at c.args.self.now.entries c.args.now in
    let is : Some c.in-Some.entry ≡ option_map (head_entry moment) (next_opening c.args.self.now c.args.config.now c.args.place) = search rules in
    rw ((entry_some moment (next_opening c.args.self.now c.args.config.now c.args.place) c.in-Some.entry is).0, sym (to_z-of_z w64 c.args.now fits)) c.take_next.ensures.ok

pub returns-in-Some-clause-err : goal.returns-in-Some-clause-err
returns-in-Some-clause-err g c =
    let fits : FitsSigned w64 c.args.now = search rules in
    rw (sym (to_z-of_z w64 c.args.now fits)) c.take_next.ensures.err

-- nothing comes next
pub returns-in-None-clause-ok : goal.returns-in-None-clause-ok
returns-in-None-clause-ok g c =
    let moment = moment_at c.args.self.now.entries c.args.now in
    let is : None ≡ option_map (head_entry moment) (next_opening c.args.self.now c.args.config.now c.args.place) = search rules in
    stays c.args.self.now c.args.config.now c.args.now (next_opening c.args.self.now c.args.config.now c.args.place) c.args.next.now
    (entry_none moment (next_opening c.args.self.now c.args.config.now c.args.place) is)
