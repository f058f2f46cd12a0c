-- Whether a text of a journal has the lines of a log.
use Rattle.std.proofs.Common.{◌≡◌, ◌≢◌, ℕ, ◌^◌, ◌<◌, Bool, true, false, cond, ◌==◌, List, [], ◌∷◌, ◌++◌, drop, refl, sym, ◌∙◌, ap, subst, arith, append_assoc, codes}
use Rattle.std.specs.Fmt.{decimal}
use Rattle.std.proofs.lemmas.List.{append-nil}
use Rattle.ilp_journal_text.specs.Text.{line, first_line}
use Rattle.ilp_journal_text.specs.Reading.{LacksFirstLine}
use Rattle.ilp_journal_text.proofs.Ink.{decimal_ink}
use Rattle.ilp_line_file.specs.Text.{recovered, text_of, IsLine, IsText}
use Rattle.ilp_line_file.proofs.Whole.{are_lines, recovered-text_of, text_of-append}
use Rattle.ilp_log_text.specs.Lines.{CutsLine}
use Rattle.ilp_log_text.specs.Text.{PlainLogText, journal_form, IsJournal, IsIn}
use Rattle.ilp_log_text.proofs.Plain.{word_plain, plain_line}
use Rattle.ilp_log_text.proofs.Written.{line_append, ink_line}

-- ---- the first line of a journal's text

pub form_is_line : (period : ℕ) → period < 2 ^ 32 → IsLine (journal_form period)
form_is_line period fits = by (period == 0)
  where
    by : (b : Bool) → IsLine (cond b (codes "ilp-journal 1") (codes "ilp-journal 2 " ++ decimal period))
    by true = plain_line (codes "ilp-journal 1") (word_plain (codes "ilp-journal 1") refl)
    by false =
        line_append (codes "ilp-journal 2 ") (decimal period) (plain_line (codes "ilp-journal 2 ") (word_plain (codes "ilp-journal 2 ") refl))
        (ink_line (decimal period) (decimal_ink period (omega (arith, fits))))

-- it ends by LF
pub form_line : (period : ℕ) → first_line period ≡ journal_form period ++ 10 ∷ []
form_line period = by (period == 0)
  where
    by : (b : Bool) → cond b (codes "ilp-journal 1\n") (line (codes "ilp-journal") (codes "2" ∷ decimal period ∷ []))
        ≡ cond b (codes "ilp-journal 1") (codes "ilp-journal 2 " ++ decimal period) ++ 10 ∷ []
    by true = refl
    by false = ap (λ (digits : List ℕ). codes "ilp-journal 2 " ++ (digits ++ 10 ∷ [])) (append-nil (decimal period))

-- the lines of a text that begins with it
form_lines : (text rest : List ℕ) (period : ℕ) → period < 2 ^ 32 → text ≡ first_line period ++ rest → recovered text ≡ journal_form period ∷ recovered rest
form_lines text rest period fits is =
    ap recovered (is ∙ ap (λ (t : List ℕ). t ++ rest) (form_line period)) ∙ recovered-text_of (journal_form period ∷ []) rest (form_is_line period fits, tt)

-- what stands behind it is what is cut off behind the first line
pub cut_form : (text rest line entries : List ℕ) (period : ℕ) → period < 2 ^ 32 → text ≡ first_line period ++ rest → CutsLine text line entries
    → IsJournal (recovered text) (recovered entries)
cut_form text rest line entries period fits is cuts =
    let lines : recovered text ≡ journal_form period ∷ recovered rest = form_lines text rest period fits is in
    let both : line ∷ recovered entries ≡ journal_form period ∷ recovered rest = sym cuts.first ∙ lines in
    let tails : recovered rest ≡ recovered entries = cc in
    record { period = period; numbered = fits; first = lines ∙ ap (λ (l : List (List ℕ)). journal_form period ∷ l) tails }

-- a text of lines without it is none of a journal
pub lacks_form : (text : List ℕ) → IsText text → LacksFirstLine text → (entries : List (List ℕ)) → IsJournal (recovered text) entries → ⊥
lacks_form text is lacks entries journal =
    lacks journal.period (text_of entries) journal.numbered
    (is ∙ ap text_of journal.first ∙ sym (append_assoc (journal_form journal.period) (10 ∷ []) (text_of entries))
    ∙ ap (λ (t : List ℕ). t ++ text_of entries) (sym (form_line journal.period)))

-- nor is one without a line
pub no_form : (lines entries : List (List ℕ)) → lines ≡ [] → IsJournal lines entries → ⊥
no_form lines entries none journal =
    let both : ◌≡◌ {A = List (List ℕ)} [] (journal_form journal.period ∷ entries) = sym none ∙ journal.first in
    absurd (cc)

-- ---- the lines of a log

-- the first line is missing
pub no_journal : (log : PlainLogText) (saved text : List ℕ) → recovered text ≡ recovered saved
    → ((entries : List (List ℕ)) → IsJournal (recovered text) entries → ⊥) → IsIn log saved → ⊥
no_journal log saved text same none has = none has.entries (subst (λ (lines : List (List ℕ)). IsJournal lines has.entries) (sym same) has.journal)

module _ (log : PlainLogText) (saved text entries rest lines : List ℕ) (same : recovered text ≡ recovered saved) (found : IsJournal (recovered text) (recovered entries))
    (is_rest : IsText rest) (rest_lines : recovered rest ≡ drop log.count (recovered entries)) (is_lines : IsText lines) (log_lines : recovered lines ≡ log.lines) where
  -- the lines of the log come first
  pub is_in : (after : List ℕ) → rest ≡ lines ++ after → IsIn log saved
  is_in after begins =
      let all : recovered rest ≡ recovered lines ++ recovered after =
      ap recovered (begins ∙ ap (λ (t : List ℕ). t ++ after) is_lines) ∙ recovered-text_of (recovered lines) after (are_lines [] lines tt) in
      record {
        entries = recovered entries;
        journal = subst (λ (l : List (List ℕ)). IsJournal l (recovered entries)) same found;
        has = (recovered after, ap (λ (l : List (List ℕ)). l ++ recovered after) (sym log_lines) ∙ sym all ∙ rest_lines);
      }

  pub has_begun : IsIn log saved → (after : List ℕ) × (rest ≡ lines ++ after)
  has_begun has =
      let firsts : journal_form has.journal.period ∷ has.entries ≡ journal_form found.period ∷ recovered entries = sym has.journal.first ∙ sym same ∙ found.first in
      let tails : has.entries ≡ recovered entries = cc in
      let more : List (List ℕ) = has.has.0 in
      let all : recovered rest ≡ recovered lines ++ more =
      rest_lines ∙ ap (drop log.count) (sym tails) ∙ sym has.has.1 ∙ ap (λ (l : List (List ℕ)). l ++ more) (sym log_lines) in
      (text_of more, is_rest ∙ ap text_of all ∙ text_of-append (recovered lines) more ∙ ap (λ (t : List ℕ). t ++ text_of more) (sym is_lines))
