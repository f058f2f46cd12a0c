use Rattle.std.proofs.Common.{◌≡◌, ◌<◌, ◌++◌, true, false, IsTrue, length, Some, None, Err, sym, ap, subst, ◌∙◌, arith, rules}
use Rattle.std.specs.List.{slice_split}
use Rattle.std.specs.Result.{IfErr}
use Rattle.std.proofs.lemmas.Bool.Decides.{Decides-eqb}
use Rattle.std.proofs.lemmas.Slice.Eq.{strip_prefix_is}
use Rattle.ilp_journal.specs.declared.entry.Entry.{Entry}
use Rattle.ilp_journal.specs.BroughtForward.{is_brought_forward}
use Rattle.ilp_journal_text.specs.declared.fields.LineFault.TheVariants.{Bad}
use Rattle.ilp_journal_text.specs.Text.{entry_line}
use Rattle.ilp_journal_text.specs.Reading.{LacksEntry}
use Rattle.ilp_journal_text.specs.Fields.{is_space, octets_of}
use Rattle.ilp_journal_text.proofs.Awaited.{entry_body, entry_few, entry_parts, entry_clean, entry_cut, on_err, given, refused}
use Rattle.ilp_journal_text.proofs.reading.take_entry.Goals as goal

pub returns-in_err-line-clause-err : goal.returns-in_err-line-clause-err
returns-in_err-line-clause-err c =
    let C = c.args.config.now in
    on_err c.from_residual.result _ (λ _ _ e after stands whole.
    c.in_err-line.ensures (entry_body C e) after (entry_clean C c.peers.ensures.valid e stands.stands) (entry_parts C e after _ whole))

pub returns-in_err-fields-clause-err : goal.returns-in_err-fields-clause-err
returns-in_err-fields-clause-err c =
    let C = c.args.config.now in
    on_err c.from_residual-in_err-fields.result _ (λ _ _ e after stands whole.
    let same = c.in_ok-line.ensures (entry_body C e) after (entry_clean C c.peers.ensures.valid e stands.stands) (entry_parts C e after _ whole) in
    let cut = ap (slice_split is_space) same ∙ entry_cut C c.peers.ensures.valid e stands.stands in
    omega (arith, c.in_err-fields.ensures.err, ap length cut, entry_few C e))

pub returns-in_err-entry-clause-err : goal.returns-in_err-entry-clause-err
returns-in_err-entry-clause-err c =
    let C = c.args.config.now in
    let text = c.args.text.now in
    let passed : c.from_residual-in_err-entry.result ≡ Err c.in_err-entry.field-0.0 = search rules in
    subst (λ r. IfErr r (λ fault. fault ≡ Bad → LacksEntry C c.args.period text)) (sym passed) (λ bad e after stands whole.
    let same = c.in_ok-line.ensures (entry_body C e) after (entry_clean C c.peers.ensures.valid e stands.stands) (entry_parts C e after _ whole) in
    let fields = ap octets_of c.as_slice.ensures.value ∙ c.in_ok-fields.ensures.ok ∙ ap (slice_split is_space) same ∙ entry_cut C c.peers.ensures.valid e stands.stands in
    refused e c.in_err-entry.field-0.0 bad (c.in_err-entry.ensures.read e stands.stands fields))

-- what is brought forward stands in no text of the first period
pub returns-then-not-stands_in-clause-err : goal.returns-then-not-stands_in-clause-err
returns-then-not-stands_in-clause-err c = λ _ e after stands whole.
    let C = c.args.config.now in
    let same = c.in_ok-line.ensures (entry_body C e) after (entry_clean C c.peers.ensures.valid e stands.stands) (entry_parts C e after _ whole) in
    let fields = ap octets_of c.as_slice.ensures.value ∙ c.in_ok-fields.ensures.ok ∙ ap (slice_split is_space) same ∙ entry_cut C c.peers.ensures.valid e stands.stands in
    let entry = given c.in_ok-entry.entry e (c.in_ok-entry.ensures.read e stands.stands fields) in
    let is : c.stands_in.result ≡ false = search rules in
    let passes : c.stands_in.result ≡ true =
    c.stands_in.ensures.1 (subst (λ (d : Entry). IsTrue (is_brought_forward d.what) → 0 < c.args.period) (sym entry) stands.later) in
    let clash : false ≡ true = sym is ∙ passes in cc

pub returns-in-Some-clause-ok : goal.returns-in-Some-clause-ok
returns-in-Some-clause-ok c =
    let line = c.as_slice-2.ensures ∙ c.entry_line.ensures.octets in
    let found = strip_prefix_is Decides-eqb c.args.text.now c.as_slice-2.result.now (Some c.in-Some.rest) c.in-Some.ensures.cases in
    (found ∙ ap (λ octets. octets ++ c.in-Some.rest.now) line, record { stands = c.in_ok-entry.ensures.stands; later = c.stands_in.ensures.0 c.if-not-stands_in.false })

pub returns-clause-err : goal.returns-clause-err
returns-clause-err c = λ _ e after stands whole.
    let C = c.args.config.now in
    let same = c.in_ok-line.ensures (entry_body C e) after (entry_clean C c.peers.ensures.valid e stands.stands) (entry_parts C e after _ whole) in
    let fields = ap octets_of c.as_slice.ensures.value ∙ c.in_ok-fields.ensures.ok ∙ ap (slice_split is_space) same ∙ entry_cut C c.peers.ensures.valid e stands.stands in
    let entry = given c.in_ok-entry.entry e (c.in_ok-entry.ensures.read e stands.stands fields) in
    let line = c.as_slice-2.ensures ∙ c.entry_line.ensures.octets ∙ ap (entry_line C) entry in
    strip_prefix_is Decides-eqb c.args.text.now c.as_slice-2.result.now None c.in-None.ensures.cases after (whole ∙ ap (λ octets. octets ++ after) (sym line))
