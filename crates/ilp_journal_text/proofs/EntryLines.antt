-- Lines of entries that stand behind others: what they stand for, where they are bad, and what a reader knows of them on its way.
use Rattle.std.proofs.Common.{◌≡◌, ℕ, List, [], ◌∷◌, ◌++◌, length, take, refl, sym, ap, subst, ◌∙◌, arith, append_assoc, length-append, All}
use Rattle.std.proofs.lemmas.Grind.{flat_map-append}
use Rattle.std.proofs.lemmas.List.{append-nil, nil_from_length}
use Rattle.std.proofs.lemmas.List.Elements.{All-nil, All-push, All-head, All-tail}
use Rattle.ilp_accounts.specs.Configuration.{Configuration}
use Rattle.ilp_accounts.specs.Valid.{IsValid}
use Rattle.ilp_journal.specs.declared.entry.Entry.{Entry}
use Rattle.ilp_journal.specs.Journal.{Entries}
use Rattle.ilp_journal_text.specs.Text.{entry_line, entry_lines}
use Rattle.ilp_journal_text.specs.Reading.{StandsIn, IsTyped, joined, Unread, Takes, LacksEntry, IsLine, AreLinesOf, IsFirstBadEntryLine, unread, HasReadLines, IsAllRead, IsBadNext}
use Rattle.ilp_journal_text.proofs.Awaited.{entry_body, entry_parts, typed_line}
use Rattle.ilp_journal_text.proofs.FirstBad.{one_line, some_octet}
use Rattle.ilp_journal_text.proofs.OneText.{same_entries}

module _ (C : Configuration) where
  -- ---- a reader on its way

  -- none was read yet
  pub none_read : (text : List ℕ) → HasReadLines C text [] (unread text)
  none_read text = record { whole = refl; stand = All-nil (StandsIn C 0); period = refl; count = refl }

  -- the line of an entry adds it to those that were read
  pub one_read : (text : List ℕ) (l : Entries) (e : Entry) (u v : Unread) → HasReadLines C text l u → Takes C e u v → HasReadLines C text (l ++ e ∷ []) v
  one_read text l e u v read takes = record {
    whole =
        let grown : entry_lines C (l ++ e ∷ []) ≡ entry_lines C l ++ entry_line C e =
        flat_map-append (entry_line C) l (e ∷ []) ∙ ap (λ (octets : List ℕ). entry_lines C l ++ octets) (append-nil (entry_line C e)) in
        read.whole
        ∙ ap (λ (octets : List ℕ). entry_lines C l ++ octets) takes.line ∙ sym (append_assoc (entry_lines C l) (entry_line C e) v.rest)
        ∙ ap (λ (octets : List ℕ). octets ++ v.rest) (sym grown);
    stand = All-push (StandsIn C 0) l e read.stand (subst (λ (period : ℕ). StandsIn C period e) read.period takes.stands);
    period = takes.period ∙ read.period;
    count = omega (arith, takes.count, read.count, length-append l (e ∷ []));
  }

  -- behind the last line they are those of all entries that were read
  pub all_read : (text : List ℕ) (l : Entries) (u : Unread) → HasReadLines C text l u → IsAllRead u → AreLinesOf C l text
  all_read text l u read ended = record {
    whole = read.whole ∙ ap (λ (octets : List ℕ). entry_lines C l ++ octets) ended ∙ append-nil (entry_lines C l);
    stand = read.stand;
  }

  -- a bad line that is met is the first
  pub bad_next : (text : List ℕ) (l : Entries) (u : Unread) (line : ℕ) → HasReadLines C text l u → IsBadNext C u line → IsFirstBadEntryLine C text line
  bad_next text l u line read bad = record {
    before = l;
    rest = u.rest;
    whole = read.whole;
    stand = read.stand;
    there = bad.there;
    bad = subst (λ (period : ℕ). LacksEntry C period u.rest) read.period bad.bad;
    number = omega (arith, bad.number, read.count);
  }

  -- ---- what lines stand for

  -- no line is empty
  nothing_lacks : LacksEntry C 0 []
  nothing_lacks e after stands none = omega (arith, ap length (none ∙ entry_parts C e after _ refl), length-append (entry_body C e) (10 ∷ after))

  -- no lines are those of no entry
  pub no_lines : (l : Entries) → AreLinesOf C l [] → l ≡ []
  no_lines [] are = refl
  no_lines (e ∷ l) are = absurd (nothing_lacks e (entry_lines C l) (All-head (StandsIn C 0) e l are.stand) are.whole)

  -- and none of them is bad
  pub none_is_bad : (line : ℕ) → IsFirstBadEntryLine C [] line → ⊥
  none_is_bad line bad = bad.there (nil_from_length bad.rest (omega (arith, ap length bad.whole, length-append (entry_lines C bad.before) bad.rest)))

  module _ (valid : IsValid C) where
    -- lines stand for one list of entries
    pub one_list : (j k : Entries) (text : List ℕ) → AreLinesOf C j text → AreLinesOf C k text → j ≡ k
    one_list j k text is_j is_k =
        (same_entries C valid 0 j k [] [] is_j.stand is_k.stand nothing_lacks nothing_lacks (append-nil (entry_lines C j) ∙ (sym is_j.whole ∙ is_k.whole) ∙ sym (append-nil (entry_lines C k)))).0

    -- lines that stand for one have no bad line
    pub no_bad_line : (j : Entries) (text : List ℕ) (line : ℕ) → AreLinesOf C j text → IsFirstBadEntryLine C text line → ⊥
    no_bad_line j text line are bad =
        bad.there (sym (same_entries C valid 0 j bad.before [] bad.rest are.stand bad.stand nothing_lacks bad.bad (append-nil (entry_lines C j) ∙ (sym are.whole ∙ bad.whole))).1)

    -- and no lines have two first bad ones
    pub one_bad_line : (text : List ℕ) (m n : ℕ) → IsFirstBadEntryLine C text m → IsFirstBadEntryLine C text n → m ≡ n
    one_bad_line text m n bad other =
        let same = same_entries C valid 0 bad.before other.before bad.rest other.rest bad.stand other.stand bad.bad other.bad (sym bad.whole ∙ other.whole) in
        omega (arith, bad.number, other.number, ap length same.0)

    -- whole lines that begin the lines of entries are those of the first entries
    pub whole_front : (entries : Entries) (lines : List (List ℕ)) (after : List ℕ) → All IsTyped entries → All IsLine lines → entry_lines C entries ≡ joined lines ++ after
        → joined lines ≡ entry_lines C (take (length lines) entries)
    whole_front entries [] after typed are same = refl
    whole_front [] (line ∷ lines) after typed are same = absurd (some_octet line (joined lines ++ after) (All-head IsLine line lines are) (sym (same ∙ append_assoc line (joined lines) after)))
    whole_front (e ∷ entries) (line ∷ lines) after typed are same =
        let parts = one_line (entry_line C e) line (entry_lines C entries) (joined lines ++ after) (typed_line C valid e (All-head IsTyped e entries typed)) (All-head IsLine line lines are)
        (same ∙ append_assoc line (joined lines) after) in
        let further = whole_front entries lines after (All-tail IsTyped e entries typed) (All-tail IsLine line lines are) parts.1 in
        ap (λ (octets : List ℕ). octets ++ joined lines) (sym parts.0) ∙ ap (λ (octets : List ℕ). entry_line C e ++ octets) further
