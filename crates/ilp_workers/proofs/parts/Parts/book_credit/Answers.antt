use Rattle.std.proofs.Common.{◌≡◌, subst, rules, refl, sym, ap, ◌∙◌, ◌++◌, ◌∷◌, [], inr}
use Rattle.std.proofs.lemmas.List.{append-nil}
use Rattle.std.specs.Prelude.{FitsSigned, Result, Ok, Err}
use Rattle.std.specs.Int.{w64}
use Rattle.std.proofs.lemmas.Int.{to_z-of_z}
use Rattle.ilp_book.specs.declared.calls.Kept.{Kept}
use Rattle.ilp_book.specs.declared.fault.CreditFault.{CreditFault}
use Rattle.ilp_book.specs.SettleStep.{payment}
use Rattle.ilp_workers.specs.Worker.{seat}
use Rattle.ilp_workers.specs.Crediting.{IsCreditedAt, kept_of, record_of_credit}
use Rattle.ilp_workers.proofs.CreditSessions.{small, credited_by}
use Rattle.ilp_workers.proofs.parts.Parts.book_credit.Goals as goal

-- a new credit is kept
pub returns-then-kept-clause-told : goal.returns-then-kept-clause-told
returns-then-kept-clause-told g c =
    let desk = g.J.Naming.desk in
    let p = payment c.args.peer c.args.key c.args.quantity.now c.args.kind in
    let kept = c.args.self.now.records.items in
    let told = c.in-Ok-credit_shown.kept in
    let reply : Result Kept CreditFault = Ok told in
    let now = c.now-now.result in
    let fits : FitsSigned w64 now = search rules in
    let at : IsCreditedAt desk p now c.args.self.now.receipt c.credit_shown.new.receipt c.args.self.now.share c.credit_shown.new.share reply =
    subst (λ t. IsCreditedAt desk p t c.args.self.now.receipt c.credit_shown.new.receipt c.args.self.now.share c.credit_shown.new.share reply) (to_z-of_z w64 now fits) c.in-Ok-credit_shown.ensures in
    let one : kept_of p reply ≡ record_of_credit p told ∷ [] = rw c.if-kept.true refl in
    inr (credited_by desk p
    (seat c.args.self.now.share kept (g.C.Clock.told c.args.self.now.clock) c.args.self.now.receipt (g.K.Keeper.told c.args.self.now.keeper))
    (seat c.credit_shown.new.share c.push_reserved.new.self.items (g.C.Clock.told c.now-now.new.self) c.credit_shown.new.receipt (g.K.Keeper.told c.args.self.now.keeper)) now reply
    (small c.config.result.now desk.config c.args.quantity.now c.args.peer c.scale.result c.config.ensures c.scale.ensures c.in-Ok.ensures.0) c.now-now.ensures at
    (c.push_reserved.ensures.items ∙ (ap (λ r. c.reserve_beside.new.records.items ++ r ∷ []) (c.record_of.ensures p refl (sym c.lowers-lowers.ensures)) ∙ (ap (λ k. k ++ record_of_credit p told ∷ []) c.in-Ok-reserve_beside.ensures.items ∙ ap (λ rs. kept ++ rs) (sym one)))) refl)

-- an earlier credit is answered
pub returns-else-kept-clause-told : goal.returns-else-kept-clause-told
returns-else-kept-clause-told g c =
    let desk = g.J.Naming.desk in
    let p = payment c.args.peer c.args.key c.args.quantity.now c.args.kind in
    let kept = c.args.self.now.records.items in
    let reply : Result Kept CreditFault = Ok c.in-Ok-credit_shown.kept in
    let now = c.now-now.result in
    let fits : FitsSigned w64 now = search rules in
    let at : IsCreditedAt desk p now c.args.self.now.receipt c.credit_shown.new.receipt c.args.self.now.share c.credit_shown.new.share reply =
    subst (λ t. IsCreditedAt desk p t c.args.self.now.receipt c.credit_shown.new.receipt c.args.self.now.share c.credit_shown.new.share reply) (to_z-of_z w64 now fits) c.in-Ok-credit_shown.ensures in
    let none : kept_of p reply ≡ [] = rw c.if-kept.false refl in
    inr (credited_by desk p
    (seat c.args.self.now.share kept (g.C.Clock.told c.args.self.now.clock) c.args.self.now.receipt (g.K.Keeper.told c.args.self.now.keeper))
    (seat c.credit_shown.new.share c.reserve_beside.new.records.items (g.C.Clock.told c.now-now.new.self) c.credit_shown.new.receipt (g.K.Keeper.told c.args.self.now.keeper)) now reply
    (small c.config.result.now desk.config c.args.quantity.now c.args.peer c.scale.result c.config.ensures c.scale.ensures c.in-Ok.ensures.0) c.now-now.ensures at
    (c.in-Ok-reserve_beside.ensures.items ∙ (sym (append-nil kept) ∙ ap (λ rs. kept ++ rs) (sym none))) refl)

-- the book refused it
pub returns-in-Err-clause-told : goal.returns-in-Err-clause-told
returns-in-Err-clause-told g c =
    let desk = g.J.Naming.desk in
    let p = payment c.args.peer c.args.key c.args.quantity.now c.args.kind in
    let kept = c.args.self.now.records.items in
    let reply : Result Kept CreditFault = Err c.in-Err.fault in
    let now = c.now-now.result in
    let fits : FitsSigned w64 now = search rules in
    let at : IsCreditedAt desk p now c.args.self.now.receipt c.credit_shown.new.receipt c.args.self.now.share c.credit_shown.new.share reply =
    subst (λ t. IsCreditedAt desk p t c.args.self.now.receipt c.credit_shown.new.receipt c.args.self.now.share c.credit_shown.new.share reply) (to_z-of_z w64 now fits) c.in-Err.ensures in
    inr (credited_by desk p
    (seat c.args.self.now.share kept (g.C.Clock.told c.args.self.now.clock) c.args.self.now.receipt (g.K.Keeper.told c.args.self.now.keeper))
    (seat c.credit_shown.new.share c.reserve_beside.new.records.items (g.C.Clock.told c.now-now.new.self) c.credit_shown.new.receipt (g.K.Keeper.told c.args.self.now.keeper)) now reply
    (small c.config.result.now desk.config c.args.quantity.now c.args.peer c.scale.result c.config.ensures c.scale.ensures c.in-Ok.ensures.0) c.now-now.ensures at
    (c.in-Ok-reserve_beside.ensures.items ∙ sym (append-nil kept)) refl)
