use Rattle.std.proofs.Common.{◌≡◌, ℕ, ◌-◌, true, [], length, Some, refl, sym, ap, ◌∙◌, subst, arith}
use Rattle.std.specs.Prelude.{slice_get, IsTrue, ◌↔◌}
use Rattle.std.proofs.lemmas.List.{nil_from_length}
use Rattle.std.proofs.lemmas.List.Elements.{All-nil}
use Rattle.ilp_journal.specs.declared.entry.Entry.{Entry}
use Rattle.ilp_journal.specs.BroughtForward.{is_brought_forward}
use Rattle.ilp_rules.specs.Book.{PlainBook}
use Rattle.ilp_rules.specs.Heads.{IsHead}
use Rattle.ilp_rules.specs.Judging.{behind_all}
use Rattle.ilp_rules.specs.Parts.{book_of}
use Rattle.ilp_rules.proofs.HeadLemmas.{head_by_last, last_in_head}
use Rattle.ilp_rules.proofs.Keeping.{last_entry_stands}
use Rattle.ilp_rules.proofs.carrying.Carrying.is_head.Goals as goal

pub returns-then-len-eq0 : goal.returns-then-len-eq0
returns-then-len-eq0 g c =
    let none : c.self.inside.journal.entries ≡ [] = nil_from_length c.self.inside.journal.entries (omega (arith, c.len-len.ensures.count, c.if-len-eq0.true)) in
    subst (λ (b : PlainBook). IsTrue true ↔ IsHead b.entries) c.self.view_is
    (λ _. subst IsHead (sym none) (All-nil (λ (e : Entry). IsTrue (is_brought_forward e.what))), λ _. refl)

-- the rule of the last tells it of all before it
pub returns-in-Some : goal.returns-in-Some
returns-in-Some g c =
    let book = book_of c.self.inside.config c.self.inside.period behind_all c.self.inside.journal in
    let last = c.in-Some.last.now in
    let place = ap (λ (n : ℕ). slice_get book.entries (n - 1)) c.len-len.ensures.count in
    let at : slice_get book.entries (length book.entries - 1) ≡ Some last = sym place ∙ sym c.in-Some.ensures in
    subst (λ (b : PlainBook). IsTrue c.is_brought_forward.result ↔ IsHead b.entries) c.self.view_is (
      λ is. head_by_last book book.entries last c.self.invariant.lawful.rules at (sym c.is_brought_forward.ensures ∙ is),
      λ head. c.is_brought_forward.ensures ∙ last_in_head book book.entries last head at,
    )

pub returns-in-None : goal.returns-in-None
returns-in-None g c =
    let j = c.self.inside.journal.entries in
    let place = ap (λ (n : ℕ). slice_get j (n - 1)) c.len-len.ensures.count in
    absurd (c.if-len-eq0.false (c.len-len.ensures.count ∙ last_entry_stands j (sym place ∙ sym c.in-None.ensures)))
