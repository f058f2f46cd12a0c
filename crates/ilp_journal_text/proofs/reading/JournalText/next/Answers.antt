use Rattle.std.proofs.Common.{◌≡◌, ◌+◌, [], ◌++◌, length, Some, None, sym, ap, subst, ◌∙◌, arith, inl, inr, refl}
use Rattle.std.proofs.lemmas.Bool.Decides.{Decides-eqb, nat_tests}
use Rattle.std.proofs.lemmas.List.{append-nil, nil_from_length}
use Rattle.std.proofs.lemmas.Slice.Eq.{strip_prefix_is}
use Rattle.ilp_journal_text.specs.Text.{end_line}
use Rattle.ilp_journal_text.specs.Reading.{IsBadAt, IsAtEnd}
use Rattle.ilp_journal_text.proofs.reading.JournalText.next.Goals as goal

pub returns-then-is_empty-clause-end : goal.returns-then-is_empty-clause-end
returns-then-is_empty-clause-end c = λ _.
    let rest = c.self.inside.rest.now in
    let line = c.as_slice.ensures ∙ c.last-end.ensures in
    let found = strip_prefix_is Decides-eqb rest c.as_slice.result.now (Some c.in-Some.after) c.in-Some.ensures.cases in
    let none : length c.in-Some.after.now ≡ 0 = grind (arith, nat_tests, c.if-is_empty.true, c.is_empty.ensures) in
    let nothing = nil_from_length c.in-Some.after.now none in
    subst IsAtEnd c.self.view_is (found ∙ ap (λ octets. octets ++ c.in-Some.after.now) line ∙ ap (λ octets. end_line c.self.inside.count ++ octets) nothing ∙ append-nil (end_line c.self.inside.count))

pub returns-in-Some-clause-err : goal.returns-in-Some-clause-err
returns-in-Some-clause-err c =
    let rest = c.self.inside.rest.now in
    let line = c.as_slice.ensures ∙ c.last-end.ensures in
    let found = strip_prefix_is Decides-eqb rest c.as_slice.result.now (Some c.in-Some.after) c.in-Some.ensures.cases in
    let more : c.in-Some.after.now ≡ [] → ⊥ = λ nothing. grind (arith, nat_tests, c.if-is_empty.false, c.is_empty.ensures, ap length nothing) in
    subst (λ u. IsBadAt c.args.config.now u (c.self.inside.count + 3)) c.self.view_is
    (inr (record { after = c.in-Some.after.now; whole = found ∙ ap (λ octets. octets ++ c.in-Some.after.now) line; more = more }, refl))

pub returns-in-Err-Bad-clause-err : goal.returns-in-Err-Bad-clause-err
returns-in-Err-Bad-clause-err c =
    let rest = c.self.inside.rest.now in
    let line = c.as_slice.ensures ∙ c.last-end.ensures in
    let none = strip_prefix_is Decides-eqb rest c.as_slice.result.now None c.in_default.ensures.cases in
    subst (λ u. IsBadAt c.args.config.now u (c.self.inside.count + 2)) c.self.view_is
    (inl (record { entry = c.in-Err-Bad.ensures.err c.in-Err-Bad.field-0-is; end = λ after whole. none after (whole ∙ ap (λ octets. octets ++ after) (sym line)) }, refl))
