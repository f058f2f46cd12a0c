-- How many entries a session booked, by how its share was raised.
use Rattle.std.proofs.Common.{◌≡◌, ℕ, ◌+◌, ◌∷◌, [], length, Option, Some, None, refl, ap, ◌∙◌, arith, length-append}
use Rattle.ilp_journal.specs.declared.entry.Entry.{Entry}
use Rattle.ilp_book.specs.Book.{PlainBook, Made, Does, with_entry}
use Rattle.ilp_desk.specs.Desk.{PlainDesk}
use Rattle.ilp_desk.specs.Portion.{Portion, portion}
use Rattle.ilp_desk.specs.Session.{IsSession}

-- a share is raised by as many entries as the journal gained
pub raised_by : (desk : PlainDesk) (old new : PlainBook) (before after : Portion) (n : ℕ) → IsSession desk old new before after → length new.entries ≡ length old.entries + n
    → after ≡ portion before.actor (before.entries + n)
raised_by desk old new before after n session more =
    let entries : after.entries ≡ before.entries + n = omega (arith, session.raised, more) in
    ap (λ a. portion a after.entries) session.actor ∙ ap (portion before.actor) entries

-- a step with an entry books one
pub one_more : {R : Type 0} (old new : PlainBook) (reply : R) (made : Made R) (e : Entry) → Does old new reply made → made.entry ≡ Some e → length new.entries ≡ length old.entries + 1
one_more old new reply made e does is =
    ap (λ (b : PlainBook). length b.entries) (does.book ∙ ap (with_entry old) is) ∙ length-append old.entries (e ∷ [])

-- a step without one books none
pub no_more : {R : Type 0} (old new : PlainBook) (reply : R) (made : Made R) → Does old new reply made → made.entry ≡ None → length new.entries ≡ length old.entries + 0
no_more old new reply made does is =
    let same = ap (λ (b : PlainBook). length b.entries) (does.book ∙ ap (with_entry old) is) in
    omega (arith, same)

-- how many entries a step makes
abbrev pub count_in : Option Entry → ℕ
count_in None = 0
count_in (Some e) = 1

-- a step books as many entries as it makes
pub booked_more : {R : Type 0} (old new : PlainBook) (reply : R) (made : Made R) (n : ℕ) → Does old new reply made → count_in made.entry ≡ n → length new.entries ≡ length old.entries + n
booked_more old new reply made n does counted = of made.entry refl counted
  where
    of : (o : Option Entry) → made.entry ≡ o → count_in o ≡ n → length new.entries ≡ length old.entries + n
    of None is e = no_more old new reply made does is ∙ ap (λ k. length old.entries + k) e
    of (Some x) is e = one_more old new reply made x does is ∙ ap (λ k. length old.entries + k) e

-- nothing more is as before
pub raised_by_none : (before after : Portion) → after ≡ portion before.actor (before.entries + 0) → after ≡ before
raised_by_none before after e =
    let none : before.entries + 0 ≡ before.entries = omega arith in
    e ∙ ap (portion before.actor) none
