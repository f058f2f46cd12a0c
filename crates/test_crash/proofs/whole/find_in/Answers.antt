use Rattle.std.proofs.Common.{◌≡◌, ◌<◌, ◌^◌, ◌∙◌, All, length, subst}
use Rattle.ilp_accounts.specs.Valid.{IsValid}
use Rattle.ilp_journal_text.specs.Reading.{IsTyped}
use Rattle.ilp_line_file.specs.Text.{IsBetween}
use Rattle.ilp_log.specs.Lines.{lines_of}
use Rattle.ilp_rules.specs.Book.{PlainBook}
use Rattle.test_crash.proofs.Found.{found}
use Rattle.test_crash.proofs.whole.find_in.Goals as goal

pub returns-clause-whole : goal.returns-clause-whole
returns-clause-whole g c holds =
    let seen = c.args.told.seen in
    let kept = c.args.told.kept in
    let form = g.K.LogNaming.form in
    let same : c.book.result.now ≡ c.args.book.now = c.book.ensures.value ∙ c.find.ensures.book ∙ c.show.ensures.same in
    found (record { whole = c.what_was_told_is_recovered.ensures.whole; refused = c.what_was_told_is_recovered.ensures.refused })
    g.J.Naming.desk form _ c.args.book.now seen kept.lines _ c.requires.form c.requires.saved c.show.ensures.of_desk
    (subst (λ (b : PlainBook). IsValid b.config) same c.look_through.ensures.valid)
    (subst (λ (b : PlainBook). All IsTyped b.entries) same c.look_through.ensures.typed)
    (subst (λ (b : PlainBook). length b.entries < 2 ^ 32) same c.look_through.ensures.few)
    c.len.ensures.begins c.show.ensures.begins (c.requires.kept holds)
    (λ x left. subst (λ (b : PlainBook). IsBetween kept.lines (lines_of form b.entries) x) c.show.ensures.same (c.find.ensures.each holds x left))
