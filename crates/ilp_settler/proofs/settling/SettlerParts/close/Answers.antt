use Rattle.std.proofs.Common.{subst, rules, refl, sym, ap, ◌∙◌, ◌++◌, ◌∷◌, []}
use Rattle.std.proofs.lemmas.List.{append-nil}
use Rattle.std.specs.Prelude.{FitsSigned, Result, Ok, Err, ℕ}
use Rattle.std.specs.Int.{w64}
use Rattle.std.proofs.lemmas.Int.{to_z-of_z}
use Rattle.ilp_book.specs.declared.fault.NotOpen.{NotOpen}
use Rattle.ilp_desk.specs.Portion.{holding}
use Rattle.ilp_settler.specs.Settler.{IsClosedAt}
use Rattle.ilp_settler.proofs.SettleSessions.{closing_by}
use Rattle.ilp_settler.proofs.settling.SettlerParts.close.Goals as goal

-- nothing was open any more
pub returns-in_default-clause-closed : goal.returns-in_default-clause-closed
returns-in_default-clause-closed g c =
    let desk = g.J.Naming.desk in
    let kept = c.args.self.now.records.items in
    let later = c.now-later.result in
    let reply : Result ℕ NotOpen = Err c.in_default.field-0 in
    let fits : FitsSigned w64 later = search rules in
    let at : IsClosedAt desk c.args.asked.number c.args.verdict later c.args.self.now.share c.settle_close.new.share reply =
    subst (λ t. IsClosedAt desk c.args.asked.number c.args.verdict t c.args.self.now.share c.settle_close.new.share reply) (to_z-of_z w64 later fits) c.in_default.ensures in
    closing_by desk c.args.peer c.args.asked c.args.said c.args.verdict _ _ (holding c.args.self.now.share kept) (holding c.settle_close.new.share kept) later reply _
    c.now-later.ensures at (sym (append-nil kept)) refl

-- the settlement is closed
pub returns-clause-closed : goal.returns-clause-closed
returns-clause-closed g c =
    let desk = g.J.Naming.desk in
    let kept = c.args.self.now.records.items in
    let later = c.now-later.result in
    let reply : Result ℕ NotOpen = Ok c.in-Ok.entry in
    let fits : FitsSigned w64 later = search rules in
    let at : IsClosedAt desk c.args.asked.number c.args.verdict later c.args.self.now.share c.settle_close.new.share reply =
    subst (λ t. IsClosedAt desk c.args.asked.number c.args.verdict t c.args.self.now.share c.settle_close.new.share reply) (to_z-of_z w64 later fits) c.in-Ok.ensures in
    closing_by desk c.args.peer c.args.asked c.args.said c.args.verdict _ _ (holding c.args.self.now.share kept) (holding c.settle_close.new.share c.push_reserved.new.self.items) later reply _
    c.now-later.ensures at (c.push_reserved.ensures.items ∙ ap (λ r. kept ++ r ∷ []) c.record_of.ensures) refl
