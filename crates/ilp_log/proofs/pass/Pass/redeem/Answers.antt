use Rattle.std.proofs.Common.{◌≡◌, ◌≤◌, length, take, sym, ◌∙◌, ap, subst, arith}
use mathlib.Core.List.{IsPrefix}
use Rattle.ilp_journal.specs.Journal.{Entries}
use Rattle.ilp_grown_list.proofs.Begins.{prefix_trans}
use Rattle.ilp_log.proofs.Begins.{in_take, lines_begin, prefix_take}
use Rattle.ilp_log.proofs.pass.Pass.redeem.Goals as goal

-- both receipts have seen a beginning of the desk's journal, and this one is the shorter
pub returns-clause-kept : goal.returns-clause-kept
returns-clause-kept g c holds =
    let earlier : Entries = c.self.inside.receipt in
    let now : Entries = c.show-2.new.receipt in
    let count = c.self.inside.count in
    let same : c.deref_mut-2.result.now ≡ c.deref_mut.result.now = c.deref_mut-2.ensures.value ∙ c.show.ensures.same in
    let mine : IsPrefix c.args.receipt.now now = subst (λ (l : Entries). IsPrefix c.args.receipt.now l) (sym (c.show-2.ensures.seen ∙ ap (λ b. b.entries) same)) c.show.ensures.begins in
    let theirs : IsPrefix earlier now = subst (λ (l : Entries). IsPrefix earlier l) (sym c.show-2.ensures.seen) c.show-2.ensures.begins in
    let enough : length c.args.receipt.now ≤ count = omega (arith, c.requires.enough, ap (λ p. p.count) c.self.view_is) in
    let front = subst (λ (l : Entries). IsPrefix c.args.receipt.now l) (prefix_take earlier now count theirs c.self.invariant.0) (in_take c.args.receipt.now now count mine enough) in
    prefix_trans _ _ _ (lines_begin g.K.LogNaming.form c.args.receipt.now (take count earlier) front) (c.self.invariant.1 holds)
