-- The text of entries, line by line.
use Rattle.std.proofs.Common.{◌≡◌, ℕ, ◌+◌, ◌-◌, ◌≤◌, List, [], ◌∷◌, ◌++◌, take, drop, get_or, Some, refl, sym, ◌∙◌, ap, subst, arith, append_assoc, length-drop}
use Rattle.std.specs.Prelude.{slice_get, slice_range}
use Rattle.std.specs.List.{flat_map}
use Rattle.std.specs.Fmt.{decimal, signed_decimal}
use Rattle.std.proofs.lemmas.List.{map-append, take_more, get_or-drop}
use Rattle.std.proofs.lemmas.Option.{get_or_from_slice_get, slice_get_within}
use Rattle.ilp_accounts.specs.Configuration.{Configuration}
use Rattle.ilp_journal.specs.declared.entry.Entry.{Entry}
use Rattle.ilp_journal.specs.Journal.{Entries}
use Rattle.ilp_journal_text.specs.Text.{after_space, what_fields, entry_line}
use Rattle.ilp_journal_text.specs.Reading.{IsLine, HasNoNul}
use Rattle.ilp_line_file.specs.Text.{text_of, AreLines}
use Rattle.ilp_line_file.proofs.Whole.{text_of-append}
use Rattle.ilp_line_file.proofs.Ending.{lines_snoc}
use Rattle.ilp_log.specs.Lines.{LogForm, words_of, entry_lines, AreLinesOf, HasJournalLines}
use Rattle.ilp_log.proofs.Spelled.{words_line}

-- an entry's line in the journal's text is its words and LF
line_is : (C : Configuration) (e : Entry) → words_of C e ++ 10 ∷ [] ≡ entry_line C e
line_is C e = append_assoc (signed_decimal e.moment) (flat_map after_space (decimal e.actor ∷ what_fields C e.what)) (10 ∷ [])

-- one entry more
range_more : (entries : Entries) (from to : ℕ) (e : Entry) → from ≤ to → slice_get entries to ≡ Some e → slice_range entries from (to + 1) ≡ slice_range entries from to ++ e ∷ []
range_more entries from to e order stands =
    let k = to - from in
    let below = slice_get_within entries to e stands in
    let on : to + 1 - from ≡ k + 1 = omega (arith, order) in
    let back : from + k ≡ to = omega (arith, order) in
    let here : get_or (drop from entries) k e ≡ e = get_or-drop from entries k e ∙ ap (λ (n : ℕ). get_or entries n e) back ∙ get_or_from_slice_get entries to e e stands in
    ap (λ (n : ℕ). take n (drop from entries)) on
    ∙ take_more (drop from entries) k e (omega (arith, length-drop from entries, order, below))
    ∙ ap (λ (x : Entry). take k (drop from entries) ++ x ∷ []) here

-- no entry yet
pub no_lines : (C : Configuration) (entries : Entries) (from : ℕ) (text : List ℕ) → text ≡ [] → AreLinesOf C entries from from text
no_lines C entries from text empty =
    let none : slice_range entries from from ≡ [] = let nothing : from - from ≡ 0 = omega arith in ap (λ (n : ℕ). take n (drop from entries)) nothing in
    record { whole = empty ∙ ap (λ (l : Entries). text_of (entry_lines C l)) (sym none); lines = subst (λ (l : Entries). AreLines (entry_lines C l)) (sym none) tt }

-- one entry's line behind those before it
pub one_more_line : (C : Configuration) (entries : Entries) (from to : ℕ) (e : Entry) (line old new : List ℕ) → from ≤ to → slice_get entries to ≡ Some e → line ≡ entry_line C e → IsLine line → HasNoNul line
    → AreLinesOf C entries from to old → new ≡ old ++ line → AreLinesOf C entries from (to + 1) new
one_more_line C entries from to e line old new order stands spelled one_line no_nul was is =
    let before = slice_range entries from to in
    let more = range_more entries from to e order stands in
    let all : entry_lines C (slice_range entries from (to + 1)) ≡ entry_lines C before ++ words_of C e ∷ [] = ap (entry_lines C) more ∙ map-append (words_of C) before (e ∷ []) in
    let words : words_of C e ++ 10 ∷ [] ≡ line = line_is C e ∙ sym spelled in
    record {
      whole = is
          ∙ ap (λ (t : List ℕ). t ++ line) was.whole
          ∙ ap (λ (t : List ℕ). text_of (entry_lines C before) ++ t) (sym words)
          ∙ sym (text_of-append (entry_lines C before) (words_of C e ∷ []))
          ∙ ap text_of (sym all);
      lines = subst AreLines (sym all) (lines_snoc (entry_lines C before) (words_of C e) was.lines (words_line (words_of C e) line words one_line no_nul));
    }

-- ---- the text of a log

lines_text : (C : Configuration) (entries : Entries) → text_of (entry_lines C entries) ≡ flat_map (entry_line C) entries
lines_text C [] = refl
lines_text C (e ∷ entries) =
    ap (λ (t : List ℕ). words_of C e ++ 10 ∷ t) (lines_text C entries)
    ∙ sym (append_assoc (words_of C e) (10 ∷ []) (flat_map (entry_line C) entries))
    ∙ ap (λ (t : List ℕ). t ++ flat_map (entry_line C) entries) (line_is C e)

pub has_journal_lines : (form : LogForm) (entries : Entries) → HasJournalLines form entries
has_journal_lines form entries =
    text_of-append form.head (entry_lines form.config (drop form.base entries))
    ∙ ap (λ (t : List ℕ). text_of form.head ++ t) (lines_text form.config (drop form.base entries))
