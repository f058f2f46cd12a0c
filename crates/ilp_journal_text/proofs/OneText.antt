-- A text stands for one journal, or a reader stops at a line of it.
use Rattle.std.proofs.Common.{◌≡◌, ℕ, ◌+◌, ◌%◌, ◌^◌, ◌<◌, ◌≤◌, ℤ, pos, negsuc, List, [], ◌∷◌, ◌++◌, length, slice_index, slice_index_or, refl, sym, ap, subst, ◌∙◌, arith, append_assoc, inl, inr, All}
use Rattle.std.specs.List.{slice_split, flat_map}
use Rattle.std.specs.Fmt.{decimal, signed_decimal}
use Rattle.std.proofs.lemmas.Fmt.{decimal_by_steps_wide}
use Rattle.std.proofs.lemmas.Int.{ints}
use Rattle.std.proofs.lemmas.List.{append-nil, append_cancel_left}
use Rattle.std.proofs.lemmas.List.Elements.{All-head, All-tail}
use Rattle.ilp_accounts.specs.Configuration.{Configuration}
use Rattle.ilp_accounts.specs.Valid.{IsValid}
use Rattle.ilp_journal.specs.declared.entry.Entry.{Entry}
use Rattle.ilp_journal.specs.Journal.{Entries}
use Rattle.ilp_journal_text.specs.Text.{entry_line, end_line}
use Rattle.ilp_journal_text.specs.Reading.{IsMoment, CanStand, StandsIn, IsTextOf, Unread, HasRead, LacksEntry, GoesOn, IsBadAt}
use Rattle.ilp_journal_text.specs.Fields.{is_space, is_line_end}
use Rattle.ilp_journal_text.proofs.Cuts.{cut_line}
use Rattle.ilp_journal_text.proofs.Awaited.{entry_body, entry_parts, entry_clean, entry_cut}
use Rattle.ilp_journal_text.proofs.Inverse.{one_entry}
use Rattle.ilp_journal_text.proofs.FirstLines.{same_first}

-- ---- the end line is no entry's

-- begins with a digit
BeginsWithDigit : List ℕ → Type 0
BeginsWithDigit [] = ⊥
BeginsWithDigit (octet ∷ octets) = octet ≤ 57

decimal_begins : (n : ℕ) → n < 10 ^ 64 → BeginsWithDigit (decimal n)
unfolding BeginsWithDigit
decimal_begins n fits = decimal_by_steps_wide (λ _ (digits : List ℕ). BeginsWithDigit digits) one more n fits
  where
    one : (k : ℕ) → k < 10 → BeginsWithDigit ((48 + k) ∷ [])
    one k digit = omega arith

    more : (k : ℕ) (digits : List ℕ) → 10 ≤ k → BeginsWithDigit digits → BeginsWithDigit (digits ++ ((48 + k % 10) ∷ []))
    more k [] many none = absurd none
    more k (octet ∷ octets) many begins = begins

moment_begins : (m : ℤ) → IsMoment m → BeginsWithDigit (signed_decimal m)
moment_begins (pos n) within =
    let below : n < 2 ^ 63 = omega (arith, ints, within.1) in
    decimal_begins n (omega (arith, below))
moment_begins (negsuc n) within = absurd (omega (arith, ints, within.0))

no_digit : (first further after rest : List ℕ) → BeginsWithDigit first → 101 ∷ rest ≡ (first ++ further) ++ after → ⊥
unfolding BeginsWithDigit
no_digit [] further after rest begins same = absurd begins
no_digit (octet ∷ octets) further after rest begins same = omega (arith, begins, ap (λ (text : List ℕ). slice_index text 0) same)

module _ (C : Configuration) where
  pub end_lacks : (period count : ℕ) (after : List ℕ) → LacksEntry C period (end_line count ++ after)
  end_lacks period count after e more stands same = no_digit (signed_decimal e.moment) _ more _ (moment_begins e.moment stands.stands.moment) same

  goes_lacks : (u : Unread) → GoesOn u → LacksEntry C u.period u.rest
  goes_lacks u goes = subst (LacksEntry C u.period) (sym goes.whole) (end_lacks u.period u.count goes.after)

  -- where the next line is bad, that of no entry comes
  bad_lacks : (u : Unread) (number : ℕ) → IsBadAt C u number → LacksEntry C u.period u.rest
  bad_lacks u number (inl lacks) = lacks.0.entry
  bad_lacks u number (inr goes) = goes_lacks u goes.0

  module _ (valid : IsValid C) where
    -- ---- one entry after another

    same_line : (d e : Entry) (x y : List ℕ) → CanStand C d → CanStand C e → entry_line C d ++ x ≡ entry_line C e ++ y → d ≡ e
    same_line d e x y stands_d stands_e same =
        let cut_d = ap (slice_split is_line_end) (entry_parts C d x _ refl) ∙ cut_line (entry_body C d) x (entry_clean C valid d stands_d) in
        let cut_e = ap (slice_split is_line_end) (entry_parts C e y _ refl) ∙ cut_line (entry_body C e) y (entry_clean C valid e stands_e) in
        let both = sym cut_d ∙ ap (slice_split is_line_end) same ∙ cut_e in
        let bodies : entry_body C d ≡ entry_body C e = ap (λ (parts : List (List ℕ)). slice_index_or parts 0 []) both in
        one_entry C valid d e stands_d stands_e (sym (entry_cut C valid d stands_d) ∙ ap (slice_split is_space) bodies ∙ entry_cut C valid e stands_e)

    -- texts that begin with the lines of entries, and then lack one
    module _ (period : ℕ) where
      pub same_entries : (j k : Entries) (x y : List ℕ) → All (StandsIn C period) j → All (StandsIn C period) k → LacksEntry C period x → LacksEntry C period y
          → flat_map (entry_line C) j ++ x ≡ flat_map (entry_line C) k ++ y → (j ≡ k) × (x ≡ y)
      same_entries [] [] x y all_j all_k lacks_x lacks_y same = (refl, same)
      same_entries [] (e ∷ k) x y all_j all_k lacks_x lacks_y same =
          absurd (lacks_x e (flat_map (entry_line C) k ++ y) (All-head (StandsIn C period) e k all_k) (same ∙ append_assoc (entry_line C e) (flat_map (entry_line C) k) y))
      same_entries (d ∷ j) [] x y all_j all_k lacks_x lacks_y same =
          absurd (lacks_y d (flat_map (entry_line C) j ++ x) (All-head (StandsIn C period) d j all_j) (sym same ∙ append_assoc (entry_line C d) (flat_map (entry_line C) j) x))
      same_entries (d ∷ j) (e ∷ k) x y all_j all_k lacks_x lacks_y same =
          let whole = sym (append_assoc (entry_line C d) (flat_map (entry_line C) j) x) ∙ same ∙ append_assoc (entry_line C e) (flat_map (entry_line C) k) y in
          let head = same_line d e _ _ (All-head (StandsIn C period) d j all_j).stands (All-head (StandsIn C period) e k all_k).stands whole in
          let rest = append_cancel_left (entry_line C e) _ _ (ap (λ (f : Entry). entry_line C f ++ (flat_map (entry_line C) j ++ x)) (sym head) ∙ whole) in
          let tail = same_entries j k x y (All-tail (StandsIn C period) d j all_j) (All-tail (StandsIn C period) e k all_k) lacks_x lacks_y rest in
          (ap (λ (f : Entry). f ∷ j) head ∙ ap (λ (l : Entries). e ∷ l) tail.0, tail.1)

      pub end_alone : (count : ℕ) → LacksEntry C period (end_line count)
      end_alone count = subst (LacksEntry C period) (append-nil (end_line count)) (end_lacks period count [])

    -- ---- what a text stands for

    pub one_journal : (p q : ℕ) (j k : Entries) (text : List ℕ) → IsTextOf C p j text → IsTextOf C q k text → (p ≡ q) × (j ≡ k)
    one_journal p q j k text is_j is_k =
        let first = same_first p q is_j.numbered is_k.numbered (flat_map (entry_line C) j ++ end_line (length j)) (flat_map (entry_line C) k ++ end_line (length k)) (sym is_j.whole ∙ is_k.whole) in
        let stand : All (StandsIn C p) k = subst (λ (n : ℕ). All (StandsIn C n) k) (sym first.0) is_k.entries in
        (first.0, (same_entries p j k (end_line (length j)) (end_line (length k)) is_j.entries stand (end_alone p (length j)) (end_alone p (length k)) first.1).0)

    -- where a reader stops, the text is no journal's
    pub never_bad_at : (period : ℕ) (j k : Entries) (text : List ℕ) (u : Unread) (number : ℕ) → IsTextOf C period j text → HasRead C text k u → IsBadAt C u number → ⊥
    never_bad_at period j k text u number is read bad =
        let first = same_first period u.period is.numbered read.numbered (flat_map (entry_line C) j ++ end_line (length j)) (flat_map (entry_line C) k ++ u.rest) (sym is.whole ∙ read.whole) in
        let stand : All (StandsIn C u.period) j = subst (λ (n : ℕ). All (StandsIn C n) j) first.0 is.entries in
        let same = same_entries u.period j k (end_line (length j)) u.rest stand read.entries (end_alone u.period (length j)) (bad_lacks u number bad) first.1 in
        let rest : u.rest ≡ end_line u.count = sym same.1 ∙ ap end_line (ap length same.0 ∙ sym read.count) in
        by bad rest
      where
        by : IsBadAt C u number → u.rest ≡ end_line u.count → ⊥
        by (inl lacks) rest = lacks.0.end [] (rest ∙ sym (append-nil (end_line u.count)))
        by (inr goes) rest = goes.0.more (append_cancel_left (end_line u.count) _ _ (sym goes.0.whole ∙ rest ∙ sym (append-nil (end_line u.count))))
