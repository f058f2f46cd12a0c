-- A text of the journal that has the entries of a log has the log's lines.
use Rattle.std.proofs.Common.{◌≡◌, ℕ, zero, suc, ◌^◌, ◌<◌, pos, List, [], ◌∷◌, ◌++◌, length, drop, map, refl, sym, ◌∙◌, ap, arith, append_assoc, All, codes}
use Rattle.std.specs.List.{flat_map}
use Rattle.std.specs.Fmt.{decimal, signed_decimal}
use Rattle.std.proofs.lemmas.List.{map-append}
use Rattle.std.proofs.lemmas.List.Elements.{All-nil, All-cons, All-head, All-tail}
use mathlib.Core.List.{IsPrefix}
use Rattle.ilp_accounts.specs.Configuration.{Configuration}
use Rattle.ilp_accounts.specs.Valid.{IsValid}
use Rattle.ilp_journal.specs.declared.entry.Entry.{Entry}
use Rattle.ilp_journal.specs.Journal.{Entries}
use Rattle.ilp_journal_text.specs.Text.{after_space, what_fields, entry_lines, end_line, first_line, journal_text}
use Rattle.ilp_journal_text.specs.Reading.{IsTyped}
use Rattle.ilp_journal_text.proofs.Ink.{IsInk, AreInk, moment_ink, further_ink}
use Rattle.ilp_line_file.specs.Text.{recovered, text_of, IsLine, AreLines}
use Rattle.ilp_line_file.proofs.Whole.{text_lines, text_of-append}
use Rattle.ilp_line_file.proofs.Ending.{lines_snoc}
use Rattle.ilp_log_text.specs.Text.{PlainLogText, journal_form, IsIn}
use Rattle.ilp_log_text.proofs.Later.{form_is_line, form_line}
use Rattle.ilp_log_text.proofs.Written.{line_append, ink_line}

-- the last line of a journal's text, without its end
abbrev end_body : ℕ → List ℕ
end_body count = codes "end" ++ flat_map after_space (decimal count ∷ [])

fields_line : (fields : List (List ℕ)) → AreInk fields → IsLine (flat_map after_space fields)
fields_line [] inks = tt
fields_line (field ∷ fields) inks =
    (λ e. omega (arith, e), λ e. omega (arith, e), line_append field (flat_map after_space fields) (ink_line field (All-head (All IsInk) field fields inks)) (fields_line fields (All-tail (All IsInk) field fields inks)))

end_is_line : (count : ℕ) → count < 2 ^ 32 → IsLine (end_body count)
end_is_line count few =
    let word : IsLine (codes "end") = (λ e. omega (arith, e), λ e. omega (arith, e), (λ e. omega (arith, e), λ e. omega (arith, e), (λ e. omega (arith, e), λ e. omega (arith, e), tt))) in
    let number : All IsInk (decimal count) = moment_ink (pos count) (record { sfits = omega (arith, few) }) in
    line_append (codes "end") (flat_map after_space (decimal count ∷ [])) word (fields_line (decimal count ∷ []) (All-cons (All IsInk) (decimal count) [] number (All-nil (All IsInk))))

module _ (C : Configuration) (valid : IsValid C) where
  -- the line of an entry, without its end
  abbrev body : Entry → List ℕ
  body e = signed_decimal e.moment ++ flat_map after_space (decimal e.actor ∷ what_fields C e.what)

  body_is_line : (e : Entry) → IsTyped e → IsLine (body e)
  body_is_line e typed =
      let further : List (List ℕ) = decimal e.actor ∷ what_fields C e.what in
      line_append (signed_decimal e.moment) (flat_map after_space further) (ink_line (signed_decimal e.moment) (moment_ink e.moment typed.moment)) (fields_line further (further_ink C valid e typed))

  bodies_are_lines : (entries : Entries) → All IsTyped entries → AreLines (map body entries)
  bodies_are_lines [] typed = tt
  bodies_are_lines (e ∷ entries) typed = (body_is_line e (All-head IsTyped e entries typed), bodies_are_lines entries (All-tail IsTyped e entries typed))

  bodies_text : (entries : Entries) → text_of (map body entries) ≡ entry_lines C entries
  bodies_text [] = refl
  bodies_text (e ∷ entries) =
      let moment : List ℕ = signed_decimal e.moment in
      let further : List ℕ = flat_map after_space (decimal e.actor ∷ what_fields C e.what) in
      let rest : List ℕ = entry_lines C entries in
      ap (λ (t : List ℕ). (moment ++ further) ++ 10 ∷ t) (bodies_text entries)
      ∙ sym (append_assoc (moment ++ further) (10 ∷ []) rest)
      ∙ ap (λ (t : List ℕ). t ++ rest) (append_assoc moment further (10 ∷ []))

  -- the lines of a journal's text
  journal_lines : (period : ℕ) (j : Entries) → period < 2 ^ 32 → All IsTyped j → length j < 2 ^ 32
      → recovered (journal_text C period j) ≡ journal_form period ∷ (map body j ++ end_body (length j) ∷ [])
  journal_lines period j numbered typed few =
      let further : List (List ℕ) = map body j ++ end_body (length j) ∷ [] in
      let text : journal_text C period j ≡ text_of (journal_form period ∷ further) =
      ap (λ (t : List ℕ). first_line period ++ t) (ap (λ (t : List ℕ). t ++ end_line (length j)) (sym (bodies_text j)) ∙ sym (text_of-append (map body j) (end_body (length j) ∷ [])))
      ∙ ap (λ (t : List ℕ). t ++ text_of further) (form_line period) ∙ append_assoc (journal_form period) (10 ∷ []) (text_of further) in
      ap recovered text
      ∙ text_lines (journal_form period ∷ further) (form_is_line period numbered, lines_snoc (map body j) (end_body (length j)) (bodies_are_lines j typed) (end_is_line (length j) few))

  drop_bodies : (n : ℕ) (entries : Entries) → map body (drop n entries) ≡ drop n (map body entries)
  drop_bodies zero entries = refl
  drop_bodies (suc n) [] = refl
  drop_bodies (suc n) (e ∷ entries) = drop_bodies n entries

  in_longer : (n : ℕ) (xs ys zs : List (List ℕ)) → IsPrefix xs (drop n ys) → IsPrefix xs (drop n (ys ++ zs))
  in_longer zero xs ys zs p = (p.0 ++ zs, sym (append_assoc xs p.0 zs) ∙ ap (λ (l : List (List ℕ)). l ++ zs) p.1)
  in_longer (suc n) [] [] zs p = (drop (suc n) zs, refl)
  in_longer (suc n) (x ∷ xs) [] zs p = absurd (cc (p.1))
  in_longer (suc n) xs (y ∷ ys) zs p = in_longer n xs ys zs p

  pub later_has : (period : ℕ) (j entries : Entries) (log : PlainLogText) → period < 2 ^ 32 → All IsTyped j → All IsTyped entries → length j < 2 ^ 32 → AreLines log.lines → text_of log.lines ≡ entry_lines C entries → IsPrefix entries (drop log.count j)
      → IsIn log (journal_text C period j)
  later_has period j entries log numbered typed typed_entries few are same p =
      let lines : log.lines ≡ map body entries =
      sym (text_lines log.lines are) ∙ ap recovered (same ∙ sym (bodies_text entries)) ∙ text_lines (map body entries) (bodies_are_lines entries typed_entries) in
      let begins : IsPrefix log.lines (drop log.count (map body j)) =
      (map body p.0, ap (λ (l : List (List ℕ)). l ++ map body p.0) lines ∙ sym (map-append body entries p.0) ∙ ap (map body) p.1 ∙ drop_bodies log.count j) in
      record {
        entries = map body j ++ end_body (length j) ∷ [];
        journal = record { period = period; numbered = numbered; first = journal_lines period j numbered typed few };
        has = in_longer log.count log.lines (map body j) (end_body (length j) ∷ []) begins;
      }
