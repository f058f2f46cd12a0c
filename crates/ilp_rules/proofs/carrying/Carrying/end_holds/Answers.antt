use Rattle.std.proofs.Common.{◌≡◌, ℤ, sym, ap, ◌∙◌, subst, length, rules, arith, to_z, of_z}
use Rattle.std.specs.Prelude.{FitsSigned, ◌≤ℤ◌}
use Rattle.std.specs.Int.{w64}
use Rattle.std.proofs.lemmas.Int.{to_z-of_z}
use Rattle.ilp_terms.specs.Expiry.{last_of_all}
use Rattle.ilp_journal.specs.declared.entry.What.TheVariants as what
use Rattle.ilp_journal.specs.Journal.{last_moment, open_hold_at}
use Rattle.ilp_rules.specs.Book.{PlainBook, by, extended, moment_at}
use Rattle.ilp_rules.specs.Lawful.{IsLawful}
use Rattle.ilp_rules.proofs.Ending.{ends_to, ends_later, ends_go_on, all_ended}
use Rattle.ilp_rules.proofs.InTime.{in_time}
use Rattle.ilp_rules.proofs.Rules.{answers_once}
use Rattle.ilp_rules.proofs.carrying.Carrying.end_holds.Goals as goal

pub end_hold-requires-clause-later : goal.end_hold-requires-clause-later
end_hold-requires-clause-later g c =
    let book = c.args.self.now in
    let lawful : IsLawful book = subst IsLawful c.self.view_is c.self.invariant.lawful in
    let now_fits : FitsSigned w64 c.args.now = search rules in
    let moment_fits : FitsSigned w64 c.moment_at-moment.result = search rules in
    let moment : to_z w64 (of_z w64 c.moment_at-moment.result) ≡ moment_at book.entries c.args.now =
    to_z-of_z w64 c.moment_at-moment.result moment_fits ∙ (c.moment_at-moment.ensures
    ∙ (ap (λ (b : PlainBook). moment_at b.entries (to_z w64 (of_z w64 c.args.now))) c.self.view_is ∙ ap (moment_at book.entries) (to_z-of_z w64 c.args.now now_fits))) in
    let timely = in_time book (by 0 c.args.now) (what.Confirmed 0) lawful in
    let count : c.len-count.result ≡ length book.entries = c.len-count.ensures.count ∙ ap (λ (b : PlainBook). length b.entries) c.self.view_is in
    let m = to_z w64 (of_z w64 c.moment_at-moment.result) in
    let later : last_moment book.entries ≤ℤ m = subst (λ (t : ℤ). last_moment book.entries ≤ℤ t) (sym moment) timely.later in
    ends_later book m c.loop-number.number c.loop-number.self lawful (omega (arith, c.loop-number-test.true, count)) c.loop-number.invariant later

pub end_hold-requires-clause-last : goal.end_hold-requires-clause-last
end_hold-requires-clause-last g c =
    let book = c.args.self.now in
    let lawful : IsLawful book = subst IsLawful c.self.view_is c.self.invariant.lawful in
    let now_fits : FitsSigned w64 c.args.now = search rules in
    let moment_fits : FitsSigned w64 c.moment_at-moment.result = search rules in
    let moment : to_z w64 (of_z w64 c.moment_at-moment.result) ≡ moment_at book.entries c.args.now =
    to_z-of_z w64 c.moment_at-moment.result moment_fits ∙ (c.moment_at-moment.ensures
    ∙ (ap (λ (b : PlainBook). moment_at b.entries (to_z w64 (of_z w64 c.args.now))) c.self.view_is ∙ ap (moment_at book.entries) (to_z-of_z w64 c.args.now now_fits))) in
    let timely = in_time book (by 0 c.args.now) (what.Confirmed 0) lawful in
    subst (λ (t : ℤ). t ≤ℤ last_of_all) (sym moment) timely.last

pub loop-number-preserved : goal.loop-number-preserved
loop-number-preserved g c =
    let book = c.args.self.now in
    let lawful : IsLawful book = subst IsLawful c.self.view_is c.self.invariant.lawful in
    let count : c.len-count.result ≡ length book.entries = c.len-count.ensures.count ∙ ap (λ (b : PlainBook). length b.entries) c.self.view_is in
    ends_go_on book (to_z w64 (of_z w64 c.moment_at-moment.result)) c.loop-number.number c.loop-number.self c.end_hold.new.self lawful
    (omega (arith, c.loop-number-test.true, count)) c.loop-number.invariant c.end_hold.ensures

pub returns-clause-ends : goal.returns-clause-ends
returns-clause-ends g c =
    let book = c.args.self.now in
    let lawful : IsLawful book = subst IsLawful c.self.view_is c.self.invariant.lawful in
    let now_fits : FitsSigned w64 c.args.now = search rules in
    let moment_fits : FitsSigned w64 c.moment_at-moment.result = search rules in
    let moment : to_z w64 (of_z w64 c.moment_at-moment.result) ≡ moment_at book.entries c.args.now =
    to_z-of_z w64 c.moment_at-moment.result moment_fits ∙ (c.moment_at-moment.ensures
    ∙ (ap (λ (b : PlainBook). moment_at b.entries (to_z w64 (of_z w64 c.args.now))) c.self.view_is ∙ ap (moment_at book.entries) (to_z-of_z w64 c.args.now now_fits))) in
    let timely = in_time book (by 0 c.args.now) (what.Confirmed 0) lawful in
    let count : c.len-count.result ≡ length book.entries = c.len-count.ensures.count ∙ ap (λ (b : PlainBook). length b.entries) c.self.view_is in
    let all : c.loop-number.number ≡ length book.entries = omega (arith, c.loop-number-test.false, c.loop-number.auto.number-end, count) in
    c.loop-number.invariant ∙ ap (λ k. extended book (ends_to (to_z w64 (of_z w64 c.moment_at-moment.result)) book.entries k)) all
    ∙ ap (λ t. extended book (ends_to t book.entries (length book.entries))) moment

pub returns-clause-ended : goal.returns-clause-ended
returns-clause-ended g c =
    let book = c.args.self.now in
    let lawful : IsLawful book = subst IsLawful c.self.view_is c.self.invariant.lawful in
    let count : c.len-count.result ≡ length book.entries = c.len-count.ensures.count ∙ ap (λ (b : PlainBook). length b.entries) c.self.view_is in
    let all : c.loop-number.number ≡ length book.entries = omega (arith, c.loop-number-test.false, c.loop-number.auto.number-end, count) in
    let m = to_z w64 (of_z w64 c.moment_at-moment.result) in
    let at_end = c.loop-number.invariant ∙ ap (λ k. extended book (ends_to m book.entries k)) all in
    λ n. ap (λ (b : PlainBook). open_hold_at b.entries n) at_end ∙ all_ended m book.entries (answers_once book lawful) n
