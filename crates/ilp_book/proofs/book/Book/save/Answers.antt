use Rattle.std.proofs.Common.{sym, subst}
use Rattle.std.specs.Prelude.{All}
use Rattle.std.proofs.lemmas.Result.{on_ok_weaker}
use Rattle.ilp_accounts.specs.Configuration.{Configuration}
use Rattle.ilp_accounts.specs.Valid.{IsValid}
use Rattle.ilp_journal_text.specs.Reading.{IsTyped}
use Rattle.ilp_journal_text.specs.Text.{journal_text}
use Rattle.ilp_rules.specs.Book.{PlainBook}
use Rattle.ilp_rules.specs.Carried.{carried}
use Rattle.ilp_rules.specs.Carry.{IsCarriedOver, IsWhyNotCarried}
use Rattle.ilp_rules.specs.Lawful.{IsLawful}
use Rattle.ilp_rules.proofs.Saved.{saved_carried, saved_not_refused}
use Rattle.ilp_book.proofs.book.Book.save.Goals as goal

-- the entries of the book are of their types
pub returns-clause-carried : goal.returns-clause-carried
returns-clause-carried g c =
    let book = c.args.self.now in
    let lawful : IsLawful book = subst IsLawful c.self.view_is c.self.invariant.0.lawful in
    on_ok_weaker c.put_journal.result
    (λ typed now. subst (λ (C : Configuration). IsCarriedOver C (journal_text C book.period book.entries) now (carried C book.period book.entries now)) (sym c.requires.own)
    (saved_carried book now lawful (subst (λ (b : PlainBook). All IsTyped b.entries) c.self.view_is typed)))
    c.put_journal.ensures.typed

pub returns-clause-refused : goal.returns-clause-refused
returns-clause-refused g c =
    let book = c.args.self.now in
    let lawful : IsLawful book = subst IsLawful c.self.view_is c.self.invariant.0.lawful in
    let valid : IsValid book.config = subst (λ (b : PlainBook). IsValid b.config) c.self.view_is c.self.invariant.0.valid in
    on_ok_weaker c.put_journal.result
    (λ typed fault bad. saved_not_refused book fault valid lawful (subst (λ (b : PlainBook). All IsTyped b.entries) c.self.view_is typed)
    (subst (λ (C : Configuration). IsWhyNotCarried C (journal_text C book.period book.entries) fault) c.requires.own bad))
    c.put_journal.ensures.typed
