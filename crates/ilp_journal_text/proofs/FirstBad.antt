-- The first bad line of a text: that where a reader stops is the one, and there is no other.
use Rattle.std.proofs.Common.{◌≡◌, ◌⊎◌, ℕ, ◌+◌, ◌^◌, ◌<◌, ◌≤◌, false, List, [], ◌∷◌, ◌++◌, length, map, slice_index_or, refl, sym, ap, subst, ◌∙◌, arith, append_assoc, length-append, All, inl, inr}
use Rattle.std.specs.List.{slice_split, flat_map}
use Rattle.std.specs.Prelude.{codes}
use Rattle.std.specs.Fmt.{decimal}
use Rattle.std.proofs.lemmas.List.{append-nil, append_cancel_left}
use Rattle.std.proofs.lemmas.Grind.{flat_map-append}
use Rattle.std.proofs.lemmas.List.Elements.{All-nil, All-cons, All-push, All-head, All-tail}
use Rattle.ilp_accounts.specs.Configuration.{Configuration}
use Rattle.ilp_accounts.specs.Valid.{IsValid}
use Rattle.ilp_journal.specs.declared.entry.Entry.{Entry}
use Rattle.ilp_journal.specs.Journal.{Entries}
use Rattle.ilp_journal_text.specs.Text.{first_line, entry_line, end_line, journal_text}
use Rattle.ilp_journal_text.specs.Reading.{CanStand, StandsIn, IsTextOf, Unread, HasRead, LacksFirstLine, LacksEntry, LacksLine, GoesOn, IsBadAt, IsLine, joined, BeginsText, IsFirstBadLine}
use Rattle.ilp_journal_text.specs.Fields.{is_line_end}
use Rattle.ilp_journal_text.proofs.Ink.{IsInk, decimal_ink, word_ink, typed_of}
use Rattle.ilp_journal_text.proofs.Cuts.{body, body_ink, cut_line, line_parts}
use Rattle.ilp_journal_text.proofs.Awaited.{entry_body, entry_parts, typed_line}
use Rattle.ilp_journal_text.proofs.FirstLines.{first_is_line, same_first}
use Rattle.ilp_journal_text.proofs.OneText.{end_lacks, end_alone, same_entries, never_bad_at}

-- ---- lines

-- octets without a line end
abbrev IsClean : List ℕ → Type 0
IsClean octets = All (λ octet. is_line_end octet ≡ false) octets

-- the first line of octets is one
pub one_line : (x y a b : List ℕ) → IsLine x → IsLine y → x ++ a ≡ y ++ b → (x ≡ y) × (a ≡ b)
one_line x y a b is also same =
    let parted : (octets more : List ℕ) (line : IsLine octets) → octets ++ more ≡ line.body ++ 10 ∷ more = λ octets more line.
    ap (λ (o : List ℕ). o ++ more) line.whole ∙ append_assoc line.body (10 ∷ []) more in
    let cut_x = ap (slice_split is_line_end) (parted x a is) ∙ cut_line is.body a is.clean in
    let cut_y = ap (slice_split is_line_end) (parted y b also) ∙ cut_line also.body b also.clean in
    let both : is.body ∷ slice_split is_line_end a ≡ also.body ∷ slice_split is_line_end b = sym cut_x ∙ ap (slice_split is_line_end) same ∙ cut_y in
    let bodies : is.body ≡ also.body = ap (λ (parts : List (List ℕ)). slice_index_or parts 0 []) both in
    let lines : x ≡ y = is.whole ∙ ap (λ (o : List ℕ). o ++ 10 ∷ []) bodies ∙ sym also.whole in
    (lines, append_cancel_left y a b (ap (λ (o : List ℕ). o ++ a) (sym lines) ∙ same))

-- a line isn't empty
pub some_octet : (x more : List ℕ) → IsLine x → x ++ more ≡ [] → ⊥
some_octet x more is none = omega (arith, ap length none, length-append x more, ap length is.whole, length-append is.body (10 ∷ []))

-- the lines of a text of a journal are lines
end_is_line : (count : ℕ) → count < 10 ^ 64 → IsLine (end_line count)
end_is_line count fits = record {
  body = body (codes "end") (decimal count ∷ []);
  whole = sym (append-nil (end_line count)) ∙ line_parts (codes "end") (decimal count ∷ []) [];
  clean = body_ink (codes "end") (decimal count ∷ []) (word_ink (codes "end") refl) (All-cons (All IsInk) (decimal count) [] (decimal_ink count fits) (All-nil (All IsInk)));
}

-- ---- lines in front

-- of two lists of lines that texts begin with, one goes on with the line that follows the other, or they are as long
abbrev Onward : List (List ℕ) → List ℕ → List (List ℕ) → Type 0
Onward short rest long = (l after more : List ℕ) × IsLine l × (rest ≡ l ++ after) × (joined long ≡ (joined short ++ l) ++ more)

compared : (b c : List (List ℕ)) (r s : List ℕ) → All IsLine b → All IsLine c → joined b ++ r ≡ joined c ++ s
    → (length b ≡ length c) ⊎ (Onward b r c ⊎ Onward c s b)
compared [] [] r s lines also same = inl refl
compared [] (y ∷ c) r s lines also same =
    inr (inl (y, joined c ++ s, joined c, All-head IsLine y c also, same ∙ append_assoc y (joined c) s, refl))
compared (x ∷ b) [] r s lines also same =
    inr (inr (x, joined b ++ r, joined b, All-head IsLine x b lines, sym same ∙ append_assoc x (joined b) r, refl))
compared (x ∷ b) (y ∷ c) r s lines also same =
    let parts = one_line x y (joined b ++ r) (joined c ++ s) (All-head IsLine x b lines) (All-head IsLine y c also)
    (sym (append_assoc x (joined b) r) ∙ same ∙ append_assoc y (joined c) s) in
    of parts.0 (compared b c r s (All-tail IsLine x b lines) (All-tail IsLine y c also) parts.1)
  where
    longer : (z w : List ℕ) (short long : List (List ℕ)) (rest : List ℕ) → z ≡ w → Onward short rest long → Onward (z ∷ short) rest (w ∷ long)
    longer z w short long rest is (l, after, more, line, here, on) = (
      l,
      after,
      more,
      line,
      here,
      ap (λ (o : List ℕ). o ++ joined long) (sym is) ∙ ap (λ (o : List ℕ). z ++ o) on
          ∙ sym (append_assoc z (joined short ++ l) more) ∙ ap (λ (o : List ℕ). o ++ more) (sym (append_assoc z (joined short) l)),
    )

    of : x ≡ y → (length b ≡ length c) ⊎ (Onward b r c ⊎ Onward c s b) → (length (x ∷ b) ≡ length (y ∷ c)) ⊎ (Onward (x ∷ b) r (y ∷ c) ⊎ Onward (y ∷ c) s (x ∷ b))
    of is (inl count) = inl (omega (arith, count))
    of is (inr (inl on)) = inr (inl (longer x y b c r is on))
    of is (inr (inr on)) = inr (inr (longer y x c b s (sym is) on))

module _ (C : Configuration) where
  -- a front of what begins a text begins it
  begins_front : (front more : List ℕ) → BeginsText C (front ++ more) → BeginsText C front
  begins_front front more begins = record {
    period = begins.period;
    entries = begins.entries;
    after = more ++ begins.after;
    is = subst (IsTextOf C begins.period begins.entries) (append_assoc front more begins.after) begins.is;
  }

  not_onward : (text : List ℕ) (m n : ℕ) (bad : IsFirstBadLine C text m) (other : IsFirstBadLine C text n) → Onward bad.before bad.rest other.before → ⊥
  not_onward text m n bad other (l, after, more, line, here, on) =
      bad.bad l after line here (begins_front (joined bad.before ++ l) more (subst (BeginsText C) on other.begins))

  -- no text has two first bad lines
  pub one_bad_line : (text : List ℕ) (m n : ℕ) → IsFirstBadLine C text m → IsFirstBadLine C text n → m ≡ n
  one_bad_line text m n bad other = of (compared bad.before other.before bad.rest other.rest bad.lines other.lines (sym bad.whole ∙ other.whole))
    where
      of : (length bad.before ≡ length other.before) ⊎ (Onward bad.before bad.rest other.before ⊎ Onward other.before other.rest bad.before) → m ≡ n
      of (inl count) = omega (arith, bad.number, other.number, count)
      of (inr (inl on)) = absurd (not_onward text m n bad other on)
      of (inr (inr on)) = absurd (not_onward text n m other bad on)

  -- and that of a journal has none
  pub never_bad : (period : ℕ) (j : Entries) (text : List ℕ) (number : ℕ) → IsTextOf C period j text → IsFirstBadLine C text number → ⊥
  never_bad period j text number is bad = bad.no_text period j is

  -- ---- where a reader stops

  -- the first line
  pub lacks_first : (text : List ℕ) → LacksFirstLine text → IsFirstBadLine C text 1
  lacks_first text lacks = record {
    no_text = λ period j is. lacks period _ is.numbered is.whole;
    before = [];
    rest = text;
    whole = refl;
    lines = All-nil IsLine;
    begins = record { period = 0; entries = []; after = journal_text C 0 []; is = record { whole = refl; numbered = omega arith; entries = All-nil (StandsIn C 0) } };
    bad = λ l after line here begins.
        let first : IsLine (first_line begins.period) = first_is_line begins.period begins.is.numbered in
        let same = one_line l (first_line begins.period) begins.after (flat_map (entry_line C) begins.entries ++ end_line (length begins.entries)) line first begins.is.whole in
        lacks begins.period after begins.is.numbered (here ∙ ap (λ (o : List ℕ). o ++ after) same.0);
    number = refl;
  }

  module _ (valid : IsValid C) where
    entry_is_line : (e : Entry) → CanStand C e → IsLine (entry_line C e)
    entry_is_line e stands = typed_line C valid e (typed_of C e stands)

    -- the lines of entries
    are_lines : (period : ℕ) (j : Entries) → All (StandsIn C period) j → All IsLine (map (entry_line C) j)
    are_lines period [] stand = All-nil IsLine
    are_lines period (e ∷ j) stand =
        All-cons IsLine (entry_line C e) (map (entry_line C) j) (entry_is_line e (All-head (StandsIn C period) e j stand).stands) (are_lines period j (All-tail (StandsIn C period) e j stand))

    joined_entries : (j : Entries) → joined (map (entry_line C) j) ≡ flat_map (entry_line C) j
    joined_entries [] = refl
    joined_entries (e ∷ j) = ap (λ (o : List ℕ). entry_line C e ++ o) (joined_entries j)

    count_lines : (j : Entries) → length (map (entry_line C) j) ≡ length j
    count_lines [] = refl
    count_lines (e ∷ j) = omega (arith, count_lines j)

    -- a text has more octets than lines
    many : (j : Entries) → length j ≤ length (flat_map (entry_line C) j)
    many [] = omega arith
    many (e ∷ j) =
        let some : 1 ≤ length (entry_line C e) = omega (arith, ap length (entry_parts C e [] (entry_line C e) (sym (append-nil (entry_line C e)))), length-append (entry_body C e) (10 ∷ [])) in
        omega (arith, many j, some, length-append (entry_line C e) (flat_map (entry_line C) j))

    module _ (text : List ℕ) (j : Entries) (u : Unread) (read : HasRead C text j u) where
      few : length text < 2 ^ 64 → u.count < 10 ^ 64
      few fits = omega (arith, fits, read.count, many j, ap length read.whole, length-append (first_line u.period) (flat_map (entry_line C) j ++ u.rest), length-append (flat_map (entry_line C) j) u.rest)

      lines_read : All IsLine (first_line u.period ∷ map (entry_line C) j)
      lines_read = All-cons IsLine (first_line u.period) (map (entry_line C) j) (first_is_line u.period read.numbered) (are_lines u.period j read.entries)

      -- the lines that were read, and what follows
      read_front : (more : List ℕ) → joined (first_line u.period ∷ map (entry_line C) j) ++ more ≡ first_line u.period ++ (flat_map (entry_line C) j ++ more)
      read_front more = ap (λ (o : List ℕ). (first_line u.period ++ o) ++ more) (joined_entries j) ∙ append_assoc (first_line u.period) (flat_map (entry_line C) j) more

      -- a journal that begins with these entries and then something that is no entry's line goes on with its end line
      then_ends : (period : ℕ) (k : Entries) (more : List ℕ) → LacksEntry C u.period more → IsTextOf C period k (joined (first_line u.period ∷ map (entry_line C) j) ++ more) → end_line u.count ≡ more
      then_ends period k more lacks is =
          let first = same_first period u.period is.numbered read.numbered (flat_map (entry_line C) k ++ end_line (length k)) (flat_map (entry_line C) j ++ more) (sym is.whole ∙ read_front more) in
          let stand : All (StandsIn C u.period) k = subst (λ (n : ℕ). All (StandsIn C n) k) first.0 is.entries in
          let same = same_entries C valid u.period k j (end_line (length k)) more stand read.entries (end_alone C valid u.period (length k)) lacks first.1 in
          ap end_line (read.count ∙ sym (ap length same.0)) ∙ same.1

      -- the next line is neither that of an entry nor the end line
      lacks_line : length text < 2 ^ 64 → LacksLine C u → (number : ℕ) → number ≡ u.count + 2 → IsFirstBadLine C text number
      lacks_line fits lacks number is = record {
        no_text = λ period k text_of. never_bad_at C valid period k j text u number text_of read (inl (lacks, is));
        before = first_line u.period ∷ map (entry_line C) j;
        rest = u.rest;
        whole = read.whole ∙ sym (read_front u.rest);
        lines = lines_read;
        begins = record { period = u.period; entries = j; after = end_line (length j); is = record { whole = read_front (end_line (length j)); numbered = read.numbered; entries = read.entries } };
        bad = no_line;
        number = omega (arith, is, read.count, count_lines j);
      }
        where
          no_line : (l after : List ℕ) → IsLine l → u.rest ≡ l ++ after → ¬ BeginsText C (joined (first_line u.period ∷ map (entry_line C) j) ++ l)
          no_line l after line here begins =
              let whole = subst (IsTextOf C begins.period begins.entries) (append_assoc (joined (first_line u.period ∷ map (entry_line C) j)) l begins.after) begins.is in
              let ends = then_ends begins.period begins.entries (l ++ begins.after) no_entry whole in
              let same = one_line (end_line u.count) l [] begins.after (end_is_line u.count (few fits)) line (append-nil (end_line u.count) ∙ ends) in
              lacks.end after (here ∙ ap (λ (o : List ℕ). o ++ after) (sym same.0))
            where
              no_entry : LacksEntry C u.period (l ++ begins.after)
              no_entry e further stands comes =
                  let same = one_line l (entry_line C e) begins.after further line (entry_is_line e stands.stands) comes in
                  lacks.entry e after stands (here ∙ ap (λ (o : List ℕ). o ++ after) same.0)

      -- the end line is next, and then more
      goes_on : length text < 2 ^ 64 → GoesOn u → (number : ℕ) → number ≡ u.count + 3 → IsFirstBadLine C text number
      goes_on fits goes number is = record {
        no_text = λ period k text_of. never_bad_at C valid period k j text u number text_of read (inr (goes, is));
        before = (first_line u.period ∷ map (entry_line C) j) ++ end_line u.count ∷ [];
        rest = goes.after;
        whole = read.whole ∙ ap (λ (o : List ℕ). first_line u.period ++ (flat_map (entry_line C) j ++ o)) goes.whole ∙ sym (all_front goes.after);
        lines = All-push IsLine (first_line u.period ∷ map (entry_line C) j) (end_line u.count) lines_read (end_is_line u.count (few fits));
        begins = record {
          period = u.period;
          entries = j;
          after = [];
          is = record {
            whole = all_front [] ∙ ap (λ (o : List ℕ). first_line u.period ++ (flat_map (entry_line C) j ++ o)) (append-nil (end_line u.count) ∙ ap end_line read.count);
            numbered = read.numbered;
            entries = read.entries;
          };
        };
        bad = no_line;
        number = omega (arith, is, read.count, count_lines j, length-append (first_line u.period ∷ map (entry_line C) j) (end_line u.count ∷ []));
      }
        where
          end_last : joined ((first_line u.period ∷ map (entry_line C) j) ++ end_line u.count ∷ []) ≡ joined (first_line u.period ∷ map (entry_line C) j) ++ end_line u.count
          end_last =
              flat_map-append (λ (line : List ℕ). line) (first_line u.period ∷ map (entry_line C) j) (end_line u.count ∷ [])
              ∙ ap (λ (o : List ℕ). joined (first_line u.period ∷ map (entry_line C) j) ++ o) (append-nil (end_line u.count))

          with_end : (more : List ℕ) → joined ((first_line u.period ∷ map (entry_line C) j) ++ end_line u.count ∷ []) ++ more ≡ joined (first_line u.period ∷ map (entry_line C) j) ++ (end_line u.count ++ more)
          with_end more = ap (λ (o : List ℕ). o ++ more) end_last ∙ append_assoc (joined (first_line u.period ∷ map (entry_line C) j)) (end_line u.count) more

          all_front : (more : List ℕ) → joined ((first_line u.period ∷ map (entry_line C) j) ++ end_line u.count ∷ []) ++ more ≡ first_line u.period ++ (flat_map (entry_line C) j ++ (end_line u.count ++ more))
          all_front more = with_end more ∙ read_front (end_line u.count ++ more)

          no_line : (l after : List ℕ) → IsLine l → goes.after ≡ l ++ after → ¬ BeginsText C (joined ((first_line u.period ∷ map (entry_line C) j) ++ end_line u.count ∷ []) ++ l)
          no_line l after line here begins =
              let whole = subst (IsTextOf C begins.period begins.entries)
              (append_assoc (joined ((first_line u.period ∷ map (entry_line C) j) ++ end_line u.count ∷ [])) l begins.after ∙ with_end (l ++ begins.after)) begins.is in
              let ends = then_ends begins.period begins.entries (end_line u.count ++ (l ++ begins.after)) (end_lacks C u.period u.count (l ++ begins.after)) whole in
              some_octet l begins.after line (sym (append_cancel_left (end_line u.count) [] (l ++ begins.after) (append-nil (end_line u.count) ∙ ends)))

      -- a bad line that is met is the first
      pub first_bad : length text < 2 ^ 64 → (number : ℕ) → IsBadAt C u number → IsFirstBadLine C text number
      first_bad fits number (inl lacks) = lacks_line fits lacks.0 number lacks.1
      first_bad fits number (inr goes) = goes_on fits goes.0 number goes.1
