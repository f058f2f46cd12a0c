use Rattle.std.proofs.Common.{sym, ap, subst, rules}
use Rattle.std.specs.Prelude.{FitsSigned, IfErr}
use Rattle.std.specs.Int.{w64}
use Rattle.std.proofs.lemmas.Int.{to_z-of_z}
use Rattle.ilp_journal.specs.declared.entry.What.TheVariants as what
use Rattle.ilp_rules.specs.Book.{PlainBook}
use Rattle.ilp_rules.specs.Broken.{BreaksRule}
use Rattle.ilp_rules.proofs.carrying.Carrying.judge_rule.Goals as goal

pub returns-in-Hold-clause-broken : goal.returns-in-Hold-clause-broken
returns-in-Hold-clause-broken g c =
    let book = c.args.self.now in
    let r = c.judge_terms.result in
    let fits : FitsSigned w64 c.args.entry.now.moment = search rules in
    let moment = to_z-of_z w64 c.args.entry.now.moment fits in
    subst (λ w. IfErr r (BreaksRule book.config book.period book.entries c.args.entry.now.moment w)) (sym c.in-Hold.is)
    (subst (λ X. IfErr r (BreaksRule X book.period book.entries c.args.entry.now.moment (what.Hold c.in-Hold.hold))) (ap (λ (b : PlainBook). b.config) c.self.view_is)
    (subst (λ m. IfErr r (BreaksRule c.self.inside.config book.period book.entries m (what.Hold c.in-Hold.hold))) moment (c.judge_terms.ensures.broken book.period book.entries)))

pub returns-in-Credited-clause-broken : goal.returns-in-Credited-clause-broken
returns-in-Credited-clause-broken g c =
    let book = c.args.self.now in
    let moment = c.args.entry.now.moment in
    subst (λ w. IfErr c.judge_credited.result (BreaksRule book.config book.period book.entries moment w)) (sym c.in-Credited.is) (c.judge_credited.ensures.broken moment)

pub returns-in-Asked-clause-broken : goal.returns-in-Asked-clause-broken
returns-in-Asked-clause-broken g c =
    let book = c.args.self.now in
    let moment = c.args.entry.now.moment in
    subst (λ w. IfErr c.judge_asked.result (BreaksRule book.config book.period book.entries moment w)) (sym c.in-Asked.is) (c.judge_asked.ensures.broken moment)

pub returns-in-Opened-clause-broken : goal.returns-in-Opened-clause-broken
returns-in-Opened-clause-broken g c =
    let book = c.args.self.now in
    let moment = c.args.entry.now.moment in
    let fits : FitsSigned w64 c.in-Opened.balance = search rules in
    subst (λ w. IfErr c.judge_opened.result (BreaksRule book.config book.period book.entries moment w)) (sym c.in-Opened.is)
    (subst (λ b. IfErr c.judge_opened.result (BreaksRule book.config book.period book.entries moment (what.Opened c.in-Opened.peer b))) (to_z-of_z w64 c.in-Opened.balance fits)
    (c.judge_opened.ensures.broken moment))

pub returns-in-Known-clause-broken : goal.returns-in-Known-clause-broken
returns-in-Known-clause-broken g c =
    let book = c.args.self.now in
    let moment = c.args.entry.now.moment in
    subst (λ w. IfErr c.judge_known.result (BreaksRule book.config book.period book.entries moment w)) (sym c.in-Known.is) (c.judge_known.ensures.broken moment)

pub returns-in-Pending-clause-broken : goal.returns-in-Pending-clause-broken
returns-in-Pending-clause-broken g c =
    let book = c.args.self.now in
    let moment = c.args.entry.now.moment in
    subst (λ w. IfErr c.judge_pending.result (BreaksRule book.config book.period book.entries moment w)) (sym c.in-Pending.is) (c.judge_pending.ensures.broken moment)
