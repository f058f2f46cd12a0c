-- Entries are taken up one by one.
use Rattle.std.proofs.Common.{◌≡◌, ℕ, ◌+◌, ◌^◌, ◌<◌, ◌≤◌, Bool, true, false, cond, Option, Some, List, [], ◌∷◌, ◌++◌, length, take, refl, sym, ap, ◌∙◌, subst, arith, append_assoc, length-append}
use Rattle.std.specs.Prelude.{Result, Ok, Err, IfErr, OnOk, OnErr, IfSome, IsSomeAnd, slice_get, ◌==◌}
use Rattle.std.specs.Result.{is_ok}
use Rattle.std.proofs.lemmas.Bool.{eqb-true, eq-eqb}
use Rattle.std.proofs.Math.Seq.{take-length, take-append_seam}
use Rattle.std.proofs.lemmas.List.{append-nil, take-append-le, length-take-le}
use Rattle.ilp_accounts.specs.Configuration.{Configuration}
use Rattle.ilp_accounts.specs.Valid.{IsValid}
use Rattle.ilp_journal.specs.declared.entry.Entry.{Entry}
use Rattle.ilp_journal.specs.Journal.{Entries}
use Rattle.ilp_order.proofs.Sums.{slice_get-push}
use Rattle.ilp_journal_text.specs.declared.reading.TextFault.{TextFault}
use Rattle.ilp_journal_text.specs.declared.reading.TextFault.TheVariants as text_fault
use Rattle.ilp_journal_text.specs.Reading.{Unread, Begins, Takes, IsAtEnd, HasRead, Explains, LacksFirstLine, IsTextOf, IsFirstBadLine, IsAllRead, HasReadLines, ExplainsNext, unread, AreLinesOf, IsFirstBadEntryLine}
use Rattle.ilp_journal_text.proofs.Read.{has_begun, has_taken, has_ended}
use Rattle.ilp_journal_text.proofs.FirstBad.{first_bad, lacks_first}
use Rattle.ilp_journal_text.proofs.EntryLines.{none_read, one_read, all_read, bad_next}
use Rattle.ilp_rules.specs.declared.fault.Stop.{Stop}
use Rattle.ilp_rules.specs.declared.fault.Stop.TheVariants.{Unlawful, Memory}
use Rattle.ilp_rules.specs.declared.rule.BrokenRule.{BrokenRule}
use Rattle.ilp_rules.specs.Broken.{Breaks}
use Rattle.ilp_rules.specs.Book.{PlainBook, with_entries, pushed}
use Rattle.ilp_rules.specs.Carried.{begun_with}
use Rattle.ilp_rules.specs.Carry.{IsFirstUnlawful}
use Rattle.ilp_rules.specs.Judging.{behind_all, carrying}
use Rattle.ilp_rules.specs.Lawful.{IsLawful}
use Rattle.ilp_rules.specs.TakenUp.{StopsAt, HasStopped, AreTakenUp, NamesLine}
use Rattle.ilp_rules.proofs.Rebasing.{lawful_behind}

-- the configuration is that of the book
pub config_of : (C : Configuration) (period : ℕ) (es : Entries) (book : PlainBook) (taken : Result Unit Stop) → AreTakenUp C period es book taken → book.config ≡ C
config_of C period es book (Ok u) is = ap (λ (b : PlainBook). b.config) is
config_of C period es book (Err stop) stopped = stopped.0

-- ---- one more entry

-- what stands in front of the last entry, and the last
in_front : (j : Entries) (e : Entry) (n : ℕ) → n < length j → slice_get (j ++ e ∷ []) n ≡ slice_get j n
in_front j e n within = slice_get-push j e n ∙ of (n == length j) refl
  where
    of : (b : Bool) → (n == length j) ≡ b → cond b (Some e) (slice_get j n) ≡ slice_get j n
    of true same = absurd (omega (arith, eqb-true n (length j) same, within))
    of false other = refl

at_last : (j : Entries) (e : Entry) (n : ℕ) → n ≡ length j → slice_get (j ++ e ∷ []) n ≡ Some e
at_last j e n number = slice_get-push j e n ∙ ap (λ b. cond b (Some e) (slice_get j n)) (eq-eqb n (length j) number)

-- one that came after the last lawful one
passed_over : (C : Configuration) (period : ℕ) (j : Entries) (book : PlainBook) (stop : Stop) (e : Entry) → AreTakenUp C period j book (Err stop) → AreTakenUp C period (j ++ e ∷ []) book (Err stop)
passed_over C period j book stop e so_far = (so_far.0, still stop so_far.1)
  where
    front : (n : ℕ) → n ≤ length j → take n (j ++ e ∷ []) ≡ take n j
    front n within = take-append-le n j (e ∷ []) within

    still : (s : Stop) → HasStopped C period j s → HasStopped C period (j ++ e ∷ []) s
    still (Unlawful n rule) stopped = record {
      within = omega (arith, stopped.within, length-append j (e ∷ []));
      below = stopped.below;
      lawful = subst (λ es. IsLawful (with_entries (carrying C period) es)) (sym (front n (omega (arith, stopped.within)))) stopped.lawful;
      unlawful = λ lawful. stopped.unlawful (subst (λ es. IsLawful (with_entries (carrying C period) es)) (front (n + 1) (omega (arith, stopped.within))) lawful);
      broken =
          let P : Option Entry → Entries → Type 0 = λ o es. IsSomeAnd o (λ (d : Entry). Breaks C period es d rule) in
          subst (λ o. P o (take n (j ++ e ∷ []))) (sym (in_front j e n stopped.within)) (subst (P (slice_get j n)) (sym (front n (omega (arith, stopped.within)))) stopped.broken);
    }
    still Memory stopped = tt

-- one that may not come next, or for which memory is short
stopped_here : (C : Configuration) (period : ℕ) (j : Entries) (u : Unit) (stop : Stop) (book new : PlainBook) (e : Entry) → AreTakenUp C period j book (Ok u) → StopsAt book e stop → new ≡ book
    → AreTakenUp C period (j ++ e ∷ []) new (Err stop)
stopped_here C period j u stop book new e so_far stops same = (ap (λ (b : PlainBook). b.config) (same ∙ so_far), halted stop stops)
  where
    halted : (s : Stop) → StopsAt book e s → HasStopped C period (j ++ e ∷ []) s
    halted (Unlawful n rule) stops =
        let number : n ≡ length j = stops.number ∙ ap (λ (b : PlainBook). length b.entries) so_far in
        let front : take n (j ++ e ∷ []) ≡ j = ap (λ k. take k (j ++ e ∷ [])) number ∙ take-append_seam j (e ∷ []) in
        let longer : length (j ++ e ∷ []) ≡ length j + 1 = length-append j (e ∷ []) in
        let whole : take (n + 1) (j ++ e ∷ []) ≡ j ++ e ∷ [] = ap (λ k. take k (j ++ e ∷ [])) (omega (arith, number, longer)) ∙ take-length (j ++ e ∷ []) in
        record {
          within = omega (arith, number, longer);
          below = stops.below;
          lawful = subst (λ es. IsLawful (with_entries (carrying C period) es)) (sym front) (subst IsLawful so_far stops.lawful);
          unlawful = λ lawful. stops.unlawful (subst (λ (b : PlainBook). IsLawful (pushed b e)) (sym so_far) (subst (λ es. IsLawful (with_entries (carrying C period) es)) whole lawful));
          broken =
              let P : Option Entry → Entries → Type 0 = λ o es. IsSomeAnd o (λ (d : Entry). Breaks C period es d rule) in
              subst (λ o. P o (take n (j ++ e ∷ []))) (sym (at_last j e n number)) (subst (P (Some e)) (sym front) (subst (λ (b : PlainBook). Breaks b.config b.period b.entries e rule) so_far stops.broken));
        }
    halted Memory stops = tt

-- one that comes next, whether it is taken up or not
pub went_on : (C : Configuration) (period : ℕ) (j : Entries) (taken result : Result Unit Stop) (book new : PlainBook) (e : Entry) → AreTakenUp C period j book taken
    → true ≡ is_ok taken → OnOk result (new ≡ pushed book e) → IfErr result (StopsAt book e) → OnErr result (new ≡ book) → AreTakenUp C period (j ++ e ∷ []) new result
went_on C period j (Ok u) (Ok v) book new e so_far good ok err same = ok ∙ ap (λ (b : PlainBook). pushed b e) so_far
went_on C period j (Ok u) (Err stop) book new e so_far good ok err same = stopped_here C period j u stop book new e so_far err same
went_on C period j (Err stop) result book new e so_far good ok err same = absurd cc

-- one that is passed over
pub went_past : (C : Configuration) (period : ℕ) (j : Entries) (taken : Result Unit Stop) (book : PlainBook) (e : Entry) → AreTakenUp C period j book taken → false ≡ is_ok taken → AreTakenUp C period (j ++ e ∷ []) book taken
went_past C period j (Ok u) book e so_far bad = absurd cc
went_past C period j (Err stop) book e so_far bad = passed_over C period j book stop e so_far

-- ---- reading on

-- behind others these entries were read, and what came of all
pub record IsTakingUp (HasCome : Entries → Unread → Type 0) (C : Configuration) (period : ℕ) (before : Entries) (lines : Unread) (book : PlainBook) (taken : Result Unit Stop) : Type 0 where
  pub entries : Entries
  pub read : HasCome entries lines
  pub state : AreTakenUp C period (before ++ entries) book taken

-- nothing was read yet
pub none_came : (HasCome : Entries → Unread → Type 0) (C : Configuration) (period : ℕ) (before : Entries) (lines : Unread) (book : PlainBook) (taken : Result Unit Stop) → HasCome [] lines → AreTakenUp C period before book taken
    → IsTakingUp HasCome C period before lines book taken
none_came HasCome C period before lines book taken begins state = record { entries = []; read = begins; state = subst (λ es. AreTakenUp C period es book taken) (sym (append-nil before)) state }

-- one more was read
one_came : (HasCome : Entries → Unread → Type 0) (C D : Configuration) (period : ℕ) (before : Entries) (lines after : Unread) (book new : PlainBook) (taken result : Result Unit Stop) (o : Option Entry) (e : Entry)
    → ((j : Entries) → HasCome j lines → Takes C e lines after → HasCome (j ++ e ∷ []) after) → IsTakingUp HasCome C period before lines book taken
    → IfSome o (λ d. Takes D d lines after) → o ≡ Some e → D ≡ book.config
    → ((j : Entries) → AreTakenUp C period j book taken → AreTakenUp C period (j ++ e ∷ []) new result) → IsTakingUp HasCome C period before after new result
one_came HasCome C D period before lines after book new taken result o e more so_far takes is same goes = record {
  entries = so_far.entries ++ e ∷ [];
  read =
      let config : D ≡ C = same ∙ config_of C period (before ++ so_far.entries) book taken so_far.state in
      more so_far.entries so_far.read (subst (λ X. Takes X e lines after) config (subst (λ x. IfSome x (λ d. Takes D d lines after)) is takes));
  state = subst (λ es. AreTakenUp C period es new result) (append_assoc before so_far.entries (e ∷ [])) (goes (before ++ so_far.entries) so_far.state);
}

-- ---- a text

-- of the text of the period these entries were read
abbrev HasReadOf : Configuration → ℕ → List ℕ → Entries → Unread → Type 0
HasReadOf C period text j lines = HasRead C text j lines × (lines.period ≡ period)

-- the same, and what came of them
abbrev pub IsReading : Configuration → ℕ → List ℕ → Unread → PlainBook → Result Unit Stop → Type 0
IsReading C period text lines book taken = IsTakingUp (HasReadOf C period text) C period [] lines book taken

module _ (C : Configuration) (period : ℕ) (text : List ℕ) where
  pub text_begins : (lines : Unread) (book : PlainBook) (taken : Result Unit Stop) → Begins text lines → lines.period ≡ period → AreTakenUp C period [] book taken → IsReading C period text lines book taken
  text_begins lines book taken begins same state = none_came (HasReadOf C period text) C period [] lines book taken (has_begun C text lines begins, same) state

  pub text_goes_on : (D : Configuration) (lines after : Unread) (book new : PlainBook) (taken result : Result Unit Stop) (o : Option Entry) (e : Entry) → IsReading C period text lines book taken
      → IfSome o (λ d. Takes D d lines after) → o ≡ Some e → D ≡ book.config → ((j : Entries) → AreTakenUp C period j book taken → AreTakenUp C period (j ++ e ∷ []) new result)
      → IsReading C period text after new result
  text_goes_on D lines after book new taken result o e so_far takes is same goes =
      one_came (HasReadOf C period text) C D period [] lines after book new taken result o e (λ j read takes. (has_taken C text j e lines after read.0 takes, takes.period ∙ read.1)) so_far takes is same goes

  -- at its end all of its entries came
  pub text_ends : (lines : Unread) (book : PlainBook) (taken : Result Unit Stop) → IsReading C period text lines book taken → IsAtEnd lines
      → (n : ℕ) × (j : Entries) × IsTextOf C n j text × AreTakenUp C n j book taken
  text_ends lines book taken so_far ends =
      let written : IsTextOf C lines.period so_far.entries text = has_ended C text so_far.entries lines so_far.read.0 ends in
      (period, so_far.entries, subst (λ (n : ℕ). IsTextOf C n so_far.entries text) so_far.read.1 written, so_far.state)

  -- a bad line is told wherever it comes
  pub text_is_bad : (D : Configuration) (lines : Unread) (book : PlainBook) (taken : Result Unit Stop) (fault : TextFault) → IsValid D → length text < 2 ^ 64 → IsReading C period text lines book taken
      → D ≡ book.config → Explains D lines fault → NamesLine (IsFirstBadLine C text) fault
  text_is_bad D lines book taken fault valid fits so_far same explains =
      let config : D ≡ C = same ∙ config_of C period ([] ++ so_far.entries) book taken so_far.state in
      of fault (subst IsValid config valid) (subst (λ X. Explains X lines fault) config explains)
    where
      of : (f : TextFault) → IsValid C → Explains C lines f → NamesLine (IsFirstBadLine C text) f
      of (text_fault.BadLine line) valid bad = first_bad C valid text so_far.entries lines so_far.read.0 fits line bad
      of text_fault.Memory valid bad = tt

-- also where it is the first line
pub first_line_is_bad : (C : Configuration) (text : List ℕ) (fault : TextFault) → LacksFirstLine text → fault ≡ text_fault.BadLine 1 → NamesLine (IsFirstBadLine C text) fault
first_line_is_bad C text fault lacks is = subst (NamesLine (IsFirstBadLine C text)) (sym is) (lacks_first C text lacks)

-- ---- lines that were logged

module _ (C : Configuration) (period : ℕ) (before : Entries) (text : List ℕ) where
  pub lines_begin : (lines : Unread) (book : PlainBook) (taken : Result Unit Stop) → lines ≡ unread text → AreTakenUp C period before book taken
      → IsTakingUp (HasReadLines C text) C period before lines book taken
  lines_begin lines book taken is state = none_came (HasReadLines C text) C period before lines book taken (subst (HasReadLines C text []) (sym is) (none_read C text)) state

  pub lines_go_on : (D : Configuration) (lines after : Unread) (book new : PlainBook) (taken result : Result Unit Stop) (o : Option Entry) (e : Entry) → IsTakingUp (HasReadLines C text) C period before lines book taken
      → IfSome o (λ d. Takes D d lines after) → o ≡ Some e → D ≡ book.config → ((j : Entries) → AreTakenUp C period j book taken → AreTakenUp C period (j ++ e ∷ []) new result)
      → IsTakingUp (HasReadLines C text) C period before after new result
  lines_go_on D lines after book new taken result o e so_far takes is same goes =
      one_came (HasReadLines C text) C D period before lines after book new taken result o e (λ j read takes. one_read C text j e lines after read takes) so_far takes is same goes

  -- behind the last line all entries came
  pub lines_end : (lines : Unread) (book : PlainBook) (taken : Result Unit Stop) → IsTakingUp (HasReadLines C text) C period before lines book taken → IsAllRead lines
      → (j : Entries) × AreLinesOf C j text × AreTakenUp C period (before ++ j) book taken
  lines_end lines book taken so_far ends = (so_far.entries, all_read C text so_far.entries lines so_far.read ends, so_far.state)

  -- a bad line is told wherever it comes
  pub line_is_bad : (D : Configuration) (lines : Unread) (book : PlainBook) (taken : Result Unit Stop) (fault : TextFault) → IsTakingUp (HasReadLines C text) C period before lines book taken
      → D ≡ book.config → ExplainsNext D lines fault → NamesLine (IsFirstBadEntryLine C text) fault
  line_is_bad D lines book taken fault so_far same explains =
      of fault (subst (λ X. ExplainsNext X lines fault) (same ∙ config_of C period (before ++ so_far.entries) book taken so_far.state) explains)
    where
      of : (f : TextFault) → ExplainsNext C lines f → NamesLine (IsFirstBadEntryLine C text) f
      of (text_fault.BadLine line) bad = bad_next C text so_far.entries lines line so_far.read bad
      of text_fault.Memory bad = tt

-- ---- why not all were taken up

-- the first unlawful entry is one by the base of a book of all of them
pub first_unlawful : (C : Configuration) (period : ℕ) (j : Entries) (n : ℕ) (rule : BrokenRule) → HasStopped C period j (Unlawful n rule) → IsFirstUnlawful C period j n rule
first_unlawful C period j n rule stopped = record {
  within = stopped.within;
  lawful = lawful_behind (with_entries (carrying C period) (take n j)) (length j) (omega (arith, length-take-le n j (omega (arith, stopped.within)), stopped.within)) stopped.lawful;
  unlawful = λ lawful. stopped.unlawful (lawful_behind (with_entries (begun_with C period j) (take (n + 1) j)) behind_all (omega (arith, length-take-le (n + 1) j (omega (arith, stopped.within)), stopped.below)) lawful);
  broken = stopped.broken;
}
