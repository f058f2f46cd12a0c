-- How far a log has come that a crash left.
use Rattle.std.proofs.Common.{◌≡◌, ℕ, ◌+◌, ◌≤◌, List, [], ◌∷◌, ◌++◌, length, take, drop, map, Option, refl, sym, ◌∙◌, ap, subst, arith, append_assoc, length-append, length-drop}
use Rattle.std.proofs.lemmas.List.{length-map, take-append-drop, take_at}
use Rattle.std.proofs.Math.Seq.{take-append-add}
use mathlib.Core.List.{IsPrefix}
use Rattle.sha2.specs.Sha256.{sha256}
use Rattle.ilp_journal.specs.Journal.{Entries}
use Rattle.ilp_journal_text.specs.Text as text
use Rattle.ilp_line_file.specs.Text.{recovered, text_of, IsBetween}
use Rattle.ilp_log.specs.Lines.{LogForm, words_of, entry_lines, HasJournalLines}
use Rattle.ilp_log.proofs.Begins.{prefix_length, in_take}
use Rattle.ilp_log_text.specs.Head.{first_line, second_line}
use Rattle.ilp_rules.specs.Book.{PlainBook}
use Rattle.ilp_starting.specs.Beginning.{text_or_nothing}
use Rattle.ilp_crash_laws.specs.Crash.{IsLeft}

-- a beginning of a mapped list is that of a beginning
prefix_of_map : {A B : Type 0} (f : A → B) (xs : List A) (ys rest : List B) → ys ++ rest ≡ map f xs → ys ≡ map f (take (length ys) xs)
prefix_of_map f xs [] rest is = refl
prefix_of_map f [] (y ∷ ys) rest is = absurd (cc is)
prefix_of_map f (x ∷ xs) (y ∷ ys) rest is =
    let first : y ≡ f x = cc is in
    let others : ys ++ rest ≡ map f xs = cc is in
    let more = prefix_of_map f xs ys rest others in
    cc (first, more)

module _ (opening told : Entries) (book : PlainBook) (saved : Option (List ℕ)) (octets : List ℕ) (left : IsLeft opening told book saved octets) where
  abbrev base : ℕ
  base = length opening

  -- what stands behind the head
  pub record Behind : Type 0 where
    pub lines : List (List ℕ)
    pub whole : recovered octets ≡ first_line base (sha256 (text_or_nothing saved)) ∷ second_line book.config ∷ lines
    pub of_entries : lines ≡ entry_lines book.config (take (length lines) (drop base book.entries))
    pub far : length told ≤ base + length lines

  pub behind : Behind
  behind =
      let C = book.config in
      let first : List ℕ = first_line base (sha256 (text_or_nothing saved)) in
      let least : List (List ℕ) = entry_lines C (drop base told) in
      let has = left.between.has in
      let begins = left.between.begins in
      let whole : recovered octets ≡ first ∷ second_line C ∷ (least ++ has.0) = sym has.1 in
      let all : first ∷ second_line C ∷ ((least ++ has.0) ++ begins.0) ≡ first ∷ second_line C ∷ entry_lines C (drop base book.entries) =
      ap (λ (ls : List (List ℕ)). ls ++ begins.0) (sym whole) ∙ begins.1 in
      let rest : (least ++ has.0) ++ begins.0 ≡ entry_lines C (drop base book.entries) = cc all in
      record {
        lines = least ++ has.0;
        whole = whole;
        of_entries = prefix_of_map (words_of C) (drop base book.entries) (least ++ has.0) begins.0 rest;
        far = omega (arith, length-append least has.0, length-map (drop base told) (words_of C), length-drop base told);
      }

  -- how many entries the log has
  pub count : ℕ
  count = length behind.lines

  -- the entries that were saved, and those that the log has
  abbrev pub reached : Entries
  reached = opening ++ take count (drop base book.entries)

  -- what the run began with begins its journal
  pub whole : book.entries ≡ opening ++ drop base book.entries
  whole =
      let p = left.begun in
      let q = left.booked in
      let all : (opening ++ p.0) ++ q.0 ≡ book.entries = ap (λ (es : Entries). es ++ q.0) p.1 ∙ q.1 in
      let front : take base book.entries ≡ opening = ap (take base) (sym all ∙ append_assoc opening p.0 q.0) ∙ take_at opening (p.0 ++ q.0) base refl in
      sym (take-append-drop base book.entries) ∙ ap (λ (es : Entries). es ++ drop base book.entries) front

  are_first : take (base + count) book.entries ≡ reached
  are_first = ap (take (base + count)) whole ∙ take-append-add opening (drop base book.entries) count

  -- all that was told is among them
  pub has_told : IsPrefix told reached
  unfolding count
  has_told = subst (λ (es : Entries). IsPrefix told es) are_first (in_take told book.entries (base + count) left.booked behind.far)

  -- and nothing that wasn't booked
  pub was_booked : IsPrefix reached book.entries
  was_booked = subst (λ (es : Entries). IsPrefix es book.entries) are_first (drop (base + count) book.entries, take-append-drop (base + count) book.entries)

  -- the text of the log's lines of entries
  pub same_text : ((form : LogForm) (entries : Entries) → HasJournalLines form entries) → text_of behind.lines ≡ text.entry_lines book.config (take count (drop base book.entries))
  unfolding count
  same_text has_lines = ap text_of behind.of_entries ∙ has_lines (record { config = book.config; head = []; base = 0 }) (take (length behind.lines) (drop base book.entries))
