-- Texts of saved journals, with the lines that were logged behind them.
use Rattle.std.proofs.Common.{◌≡◌, ℕ, ◌+◌, ◌<◌, ℤ, pos, List, [], ◌∷◌, ◌++◌, length, take, Option, Some, None, true, false, refl, sym, ap, ◌∙◌, subst, arith, inl, inr}
use Rattle.std.specs.Prelude.{All, Result, Ok, Err, OnOk, ◌⊎◌, option_map, option_to_list, int_le, Bool, if◌then◌else◌}
use Rattle.std.specs.List.{flat_map, range_with_len}
use Rattle.std.proofs.Math.Seq.{take-append_seam, take-append-add, drop-append_seam}
use Rattle.std.proofs.lemmas.List.{append-nil}
use Rattle.std.proofs.lemmas.List.Elements.{All-nil, All-cons, All-append, All-take, All-drop}
use Rattle.ilp_accounts.specs.Configuration.{Configuration}
use Rattle.ilp_accounts.specs.Valid.{IsValid}
use Rattle.ilp_journal.specs.declared.entry.Hold.{Hold}
use Rattle.ilp_journal.specs.declared.entry.Cause.TheVariants.{Late, Restart}
use Rattle.ilp_journal.specs.Journal.{Entries, open_hold_at}
use Rattle.ilp_journal_text.specs.declared.reading.TextFault.{TextFault}
use Rattle.ilp_journal_text.specs.declared.reading.TextFault.TheVariants as text_fault
use Rattle.ilp_journal_text.specs.Text.{entry_lines, journal_text}
use Rattle.ilp_journal_text.specs.Reading.{StandsIn, IsTyped, IsTextOf, IsFirstBadLine, AreLinesOf, IsFirstBadEntryLine}
use Rattle.ilp_journal_text.proofs.OneText as text
use Rattle.ilp_journal_text.proofs.FirstBad.{never_bad}
use Rattle.ilp_journal_text.proofs.EntryLines as lines
use Rattle.ilp_rules.specs.declared.fault.RecoverFault.{RecoverFault}
use Rattle.ilp_rules.specs.declared.fault.RecoverFault.TheVariants.{BadJournalText, BadLogLine, Unlawful, Memory}
use Rattle.ilp_rules.specs.declared.fault.CarryFault.TheVariants as carry_fault
use Rattle.ilp_rules.specs.declared.fault.Stop.{Stop}
use Rattle.ilp_rules.specs.declared.fault.Stop.TheVariants as stop
use Rattle.ilp_rules.specs.declared.rule.BrokenRule.{BrokenRule}
use Rattle.ilp_rules.specs.Book.{PlainBook, with_entries, extended, moment_at}
use Rattle.ilp_rules.specs.Judging.{carrying}
use Rattle.ilp_rules.specs.Carried.{begun_with, carried, end_of, ended_by_start, ends_of_open}
use Rattle.ilp_rules.specs.Carry.{IsCarriedOver, IsFirstUnlawful, IsWhyNotCarried}
use Rattle.ilp_rules.specs.Recover.{IsRecovered, IsWhyNotRecovered, IsEndByStart, BeginsWith, of_saved, of_logged, of_stop}
use Rattle.ilp_rules.specs.Heads.{IsBooked}
use Rattle.ilp_rules.specs.Lawful.{IsLawful}
use Rattle.ilp_rules.specs.TakenUp.{HasStopped, AreTakenUp, NamesLine}
use Rattle.ilp_rules.proofs.CarriedBooks.{lawful_front}
use Rattle.ilp_rules.proofs.Rebasing.{lawful_behind}
use Rattle.ilp_rules.proofs.Saved.{all_stand}
use Rattle.ilp_rules.proofs.TakingUp.{first_unlawful}

-- ---- why they aren't recovered

module _ (C : Configuration) (saved logged : List ℕ) where
  -- the text is bad
  pub saved_is_bad : (fault : TextFault) → NamesLine (IsFirstBadLine C saved) fault → IsWhyNotRecovered C saved logged (of_saved fault)
  saved_is_bad (text_fault.BadLine line) bad = bad
  saved_is_bad text_fault.Memory bad = tt

  -- what was logged is bad
  pub logged_is_bad : (fault : TextFault) (period : ℕ) (j : Entries) → IsTextOf C period j saved → NamesLine (IsFirstBadEntryLine C logged) fault → IsWhyNotRecovered C saved logged (of_logged fault)
  logged_is_bad (text_fault.BadLine line) period j written bad = (period, j, written, bad)
  logged_is_bad text_fault.Memory period j written bad = tt

  -- an entry isn't lawful
  pub not_lawful : (why : Stop) (period : ℕ) (j l : Entries) → IsTextOf C period j saved → AreLinesOf C l logged → HasStopped C period (j ++ l) why → IsWhyNotRecovered C saved logged (of_stop why)
  not_lawful (stop.Unlawful n rule) period j l written are stopped = (period, j, l, written, are, first_unlawful C period (j ++ l) n rule stopped)
  not_lawful stop.Memory period j l written are stopped = tt

-- ---- what came of a text and of lines

-- what a call answers that doesn't refuse
pub unless_err : {E : Type 0} (r : Result Unit E) (P : Type 0) → ((e : E) → r ≡ Err e → ⊥) → OnOk r P → P
unless_err (Ok u) P never ok = ok
unless_err (Err e) P never ok = absurd (never e refl)

-- the entries of both, and the book of them
pub record CameOf (C : Configuration) (saved logged : List ℕ) (book : PlainBook) (taken : Result Unit Stop) : Type 0 where
  pub period : ℕ
  pub entries : Entries
  pub later : Entries
  pub written : IsTextOf C period entries saved
  pub lines : AreLinesOf C later logged
  pub state : AreTakenUp C period (entries ++ later) book taken

module _ (C : Configuration) (saved logged : List ℕ) where
  pub came_of : (book new : PlainBook) (taken done : Result Unit Stop) → (period : ℕ) × (j : Entries) × IsTextOf C period j saved × AreTakenUp C period j book taken
      → ((period : ℕ) (before : Entries) → AreTakenUp C period before book taken → (l : Entries) × AreLinesOf C l logged × AreTakenUp C period (before ++ l) new done) → CameOf C saved logged new done
  came_of book new taken done of_text of_rest =
      let of_lines = of_rest of_text.0 of_text.1 of_text.3 in
      record { period = of_text.0; entries = of_text.1; later = of_lines.0; written = of_text.2; lines = of_lines.1; state = of_lines.2 }

  -- not all were taken up
  pub why_stopped : (book : PlainBook) (taken : Result Unit Stop) (why : Stop) → CameOf C saved logged book taken → taken ≡ Err why → IsWhyNotRecovered C saved logged (of_stop why)
  why_stopped book taken why came is =
      not_lawful C saved logged why came.period came.entries came.later came.written came.lines (subst (λ (t : Result Unit Stop). AreTakenUp C came.period (came.entries ++ came.later) book t) is came.state).1

  -- all were, and the open holds ended
  pub all_recovered : (now moment : ℤ) (book ended result : PlainBook) (taken : Result Unit Stop) (u : Unit) → CameOf C saved logged book taken → taken ≡ Ok u → moment ≡ now → IsLawful book
      → ended ≡ extended book (ends_of_open (moment_at book.entries moment) book.entries) → result ≡ begun_with ended.config ended.period ended.entries → IsRecovered C saved logged now result
  all_recovered now moment book ended result taken u came is same lawful ends begins =
      let j : Entries = came.entries ++ came.later in
      let taken_up : book ≡ with_entries (carrying C came.period) j = subst (λ (t : Result Unit Stop). AreTakenUp C came.period j book t) is came.state in
      record {
        period = came.period;
        entries = came.entries;
        later = came.later;
        written = came.written;
        lines = came.lines;
        lawful = lawful_behind (with_entries (carrying C came.period) j) (length j) (omega arith) (subst IsLawful taken_up lawful);
        begins =
            begins
            ∙ ap (λ (b : PlainBook). begun_with b.config b.period b.entries) (ends ∙ ap (λ (b : PlainBook). extended b (ends_of_open (moment_at b.entries moment) b.entries)) taken_up)
            ∙ ap (λ t. begun_with C came.period (j ++ ends_of_open (moment_at j t) j)) same;
      }

-- ---- in one way

-- what is recovered isn't refused for what it says
pub recovered_or_not : (C : Configuration) (saved logged : List ℕ) (now : ℤ) (book : PlainBook) (fault : RecoverFault) → IsValid C → IsRecovered C saved logged now book → IsWhyNotRecovered C saved logged fault → fault ≡ Memory
recovered_or_not C saved logged now book (BadJournalText line) valid is bad = absurd (never_bad C is.period is.entries saved line is.written bad)
recovered_or_not C saved logged now book (BadLogLine line) valid is bad = absurd (lines.no_bad_line C valid is.later logged line is.lines bad.3)
recovered_or_not C saved logged now book (Unlawful n rule) valid is bad =
    let before = text.one_journal C valid bad.0 is.period bad.1 is.entries saved bad.3 is.written in
    let behind : bad.2 ≡ is.later = lines.one_list C valid bad.2 is.later logged bad.4 is.lines in
    let same : bad.1 ++ bad.2 ≡ is.entries ++ is.later = ap (λ (j : Entries). j ++ bad.2) before.1 ∙ ap (λ (l : Entries). is.entries ++ l) behind in
    let first : IsFirstUnlawful C is.period (is.entries ++ is.later) n rule =
    subst (λ (p : ℕ). IsFirstUnlawful C p (is.entries ++ is.later) n rule) before.0 (subst (λ (j : Entries). IsFirstUnlawful C bad.0 j n rule) same bad.5) in
    absurd (first.unlawful (lawful_front (begun_with C is.period (is.entries ++ is.later)) (n + 1) is.lawful))
recovered_or_not C saved logged now book Memory valid is bad = refl

-- and is recovered as one book
pub recovered_as_one : (C : Configuration) (saved logged : List ℕ) (now : ℤ) (book other : PlainBook) → IsValid C → IsRecovered C saved logged now book → IsRecovered C saved logged now other → book ≡ other
recovered_as_one C saved logged now book other valid is also =
    let before = text.one_journal C valid is.period also.period is.entries also.entries saved is.written also.written in
    let behind : is.later ≡ also.later = lines.one_list C valid is.later also.later logged is.lines also.lines in
    is.begins
    ∙ ap (λ (p : ℕ). carried C p (is.entries ++ is.later) now) before.0
    ∙ ap (λ (j : Entries). carried C also.period (j ++ is.later) now) before.1
    ∙ ap (λ (l : Entries). carried C also.period (also.entries ++ l) now) behind ∙ sym also.begins

-- ---- where nothing was logged

module _ (C : Configuration) (octets : List ℕ) where
  pub as_carried : (now : ℤ) (book : PlainBook) → IsRecovered C octets [] now book → IsCarriedOver C octets now book
  as_carried now book is =
      let same : is.entries ++ is.later ≡ is.entries = ap (λ (l : Entries). is.entries ++ l) (lines.no_lines C is.later is.lines) ∙ append-nil is.entries in
      record {
        period = is.period;
        entries = is.entries;
        written = is.written;
        lawful = subst (λ (j : Entries). IsLawful (begun_with C is.period j)) same is.lawful;
        begins = is.begins ∙ ap (λ (j : Entries). carried C is.period j now) same;
      }

  pub as_recovered : (now : ℤ) (book : PlainBook) → IsCarriedOver C octets now book → IsRecovered C octets [] now book
  as_recovered now book is =
      let same : is.entries ≡ is.entries ++ [] = sym (append-nil is.entries) in
      record {
        period = is.period;
        entries = is.entries;
        later = [];
        written = is.written;
        lines = record { whole = refl; stand = All-nil (StandsIn C 0) };
        lawful = subst (λ (j : Entries). IsLawful (begun_with C is.period j)) same is.lawful;
        begins = is.begins ∙ ap (λ (j : Entries). carried C is.period j now) same;
      }

  -- the first unlawful entry is that of the text
  pub unlawful_as_carried : (n : ℕ) (rule : BrokenRule) → IsWhyNotRecovered C octets [] (Unlawful n rule) → IsWhyNotCarried C octets (carry_fault.Unlawful n rule)
  unlawful_as_carried n rule bad =
      let same : bad.1 ++ bad.2 ≡ bad.1 = ap (λ (l : Entries). bad.1 ++ l) (lines.no_lines C bad.2 bad.4) ∙ append-nil bad.1 in
      (bad.0, bad.1, bad.3, subst (λ (j : Entries). IsFirstUnlawful C bad.0 j n rule) same bad.5)

  -- and no line is bad
  pub no_log_is_bad : (line : ℕ) → IsWhyNotRecovered C octets [] (BadLogLine line) → ⊥
  no_log_is_bad line bad = lines.none_is_bad C line bad.3

-- ---- what a recovered book begins with

all_of_flat_map : {X A : Type 0} (P : A → Type 0) (f : X → List A) (xs : List X) → ((x : X) → All P (f x)) → All P (flat_map f xs)
all_of_flat_map P f [] each = All-nil P
all_of_flat_map P f (x ∷ xs) each = All-append P (f x) (flat_map f xs) (each x) (all_of_flat_map P f xs each)

-- the entries that a start books are ends of holds
ends_alone : (m : ℤ) (j : Entries) → All IsEndByStart (ends_of_open m j)
ends_alone m j = all_of_flat_map IsEndByStart (end_of m j) (range_with_len 0 (length j)) (λ n. of n (open_hold_at j n))
  where
    late_or_not : (late : Bool) → ((if late then Late else Restart) ≡ Late) ⊎ ((if late then Late else Restart) ≡ Restart)
    late_or_not true = inl refl
    late_or_not false = inr refl

    of : (n : ℕ) (o : Option Hold) → All IsEndByStart (option_to_list (option_map (ended_by_start m n) o))
    of n None = All-nil IsEndByStart
    of n (Some h) =
        All-cons IsEndByStart (ended_by_start m n h) [] (n, (if int_le h.deadline m then Late else Restart), refl, late_or_not (int_le h.deadline m)) (All-nil IsEndByStart)

-- ---- what was logged of a lawful book

module _ (book : PlainBook) (j l : Entries) (n : ℕ) (lawful : IsLawful book) (typed : All IsTyped book.entries) (whole : book.entries ≡ j ++ l)
    (own : 0 < book.period → All IsBooked l) where
  front : take (length j + n) book.entries ≡ j ++ take n l
  front = ap (take (length j + n)) whole ∙ take-append-add j l n

  stand : All (StandsIn book.config book.period) (j ++ take n l)
  stand =
      subst (All (StandsIn book.config book.period)) front
      (All-take (StandsIn book.config book.period) (length j + n) book.entries (all_stand book [] book.entries lawful.rules lawful.moments typed))

  -- what was logged can stand in lines behind a text
  logged_stand : All (StandsIn book.config 0) (take n l)
  logged_stand =
      let of_period : All (StandsIn book.config book.period) (take n l) =
      subst (All (StandsIn book.config book.period)) (drop-append_seam j (take n l)) (All-drop (StandsIn book.config book.period) (length j) (j ++ take n l) stand) in
      λ k d below. record {
        stands = (of_period k d below).stands;
        later = λ is. absurd (All-take IsBooked n l (own ((of_period k d below).later is)) k d below is);
      }

  -- whatever has reached the log is recovered
  pub logged_recovered : (now : ℤ)
      → IsRecovered book.config (journal_text book.config book.period j) (entry_lines book.config (take n l)) now (carried book.config book.period (j ++ take n l) now)
  logged_recovered now = record {
    period = book.period;
    entries = j;
    later = take n l;
    written = record {
      whole = refl;
      numbered = lawful.numbered;
      entries = subst (All (StandsIn book.config book.period)) (take-append_seam j (take n l)) (All-take (StandsIn book.config book.period) (length j) (j ++ take n l) stand);
    };
    lines = record { whole = refl; stand = logged_stand };
    lawful =
        let some : IsLawful (with_entries book (j ++ take n l)) = subst (λ (es : Entries). IsLawful (with_entries book es)) front (lawful_front book (length j + n) lawful) in
        lawful_behind (with_entries book (j ++ take n l)) (length (j ++ take n l)) (omega arith) some;
    begins = refl;
  }

  module _ (valid : IsValid book.config) where
    -- as a book that begins with all of it, behind which nothing but ends of holds stands
    pub logged_begins : (now : ℤ) (recovered : PlainBook) → IsRecovered book.config (journal_text book.config book.period j) (entry_lines book.config (take n l)) now recovered
        → BeginsWith (j ++ take n l) recovered
    logged_begins now recovered is =
        let same = recovered_as_one book.config (journal_text book.config book.period j) (entry_lines book.config (take n l)) now recovered (carried book.config book.period (j ++ take n l) now) valid is (logged_recovered now) in
        record {
          ends = ends_of_open (moment_at (j ++ take n l) now) (j ++ take n l);
          whole = ap (λ (b : PlainBook). b.entries) same;
          only = ends_alone (moment_at (j ++ take n l) now) (j ++ take n l);
        }

    -- and isn't refused for what it says
    pub logged_not_refused : (fault : RecoverFault) → IsWhyNotRecovered book.config (journal_text book.config book.period j) (entry_lines book.config (take n l)) fault → fault ≡ Memory
    logged_not_refused fault bad =
        recovered_or_not book.config (journal_text book.config book.period j) (entry_lines book.config (take n l)) (pos 0) (carried book.config book.period (j ++ take n l) (pos 0)) fault valid (logged_recovered (pos 0)) bad
