-- A log that is written anew.
use Rattle.std.proofs.Common.{◌≡◌, ◌⊎◌, ℕ, ◌+◌, ◌≤◌, Bool, true, List, [], ◌++◌, length, take, drop, sym, ◌∙◌, ap, subst, ⊎_elim, arith, take-append-drop, length-append}
use mathlib.Core.List.{IsPrefix}
use Rattle.ilp_journal.specs.Journal.{Entries}
use Rattle.ilp_grown_list.proofs.Begins.{prefix_self}
use Rattle.ilp_line_file.specs.Device.{LeavesOnly, Elapses}
use Rattle.ilp_line_file.specs.Text.{recovered, text_of, IsText, AreLines, IsBetween}
use Rattle.ilp_line_file.proofs.Moments.{leaves_more}
use Rattle.ilp_line_file.proofs.Runs.{Leaves, none_yet, no_more}
use Rattle.ilp_line_file.proofs.Whole.{are_lines, recovered-text_of, text_of-append, text_lines}
use Rattle.ilp_line_file.specs.declared.line_file.LineFile.{LineFile}
use Rattle.ilp_log.specs.declared.ack.Ack.{Ack}
use Rattle.ilp_log.specs.declared.renewing.Anew.{Anew}
use Rattle.ilp_log.specs.declared.start.LogStart.{LogStart}
use Rattle.ilp_log.specs.Lines.{LogForm, lines_of, IsGroup}
use Rattle.ilp_log.specs.Log.{IsLog, IsStart, IsAnew}
use Rattle.ilp_log.proofs.Begins.{prefix_take, lines_begin, takes}
use Rattle.ilp_log.proofs.Logs.{group_lines, group_text, head_alone, fails}

-- the new file is whole lines
pub anew_text : (form : LogForm) (list : Entries) (octets : List ℕ) (anew : Anew) → IsAnew form list octets anew → IsText octets
anew_text form list octets anew is = is.text ∙ ap text_of (sym is.read)

-- it has the head alone
pub anew_begins : (form : LogForm) (list : Entries) (start : LogStart) (old octets : List ℕ) → IsStart form start → start.base ≤ length list → old ≡ [] → octets ≡ old ++ start.head.items
    → IsAnew form list octets (record { count = start.base; end = length start.head.items })
anew_begins form list start old octets is within empty written =
    let all : octets ≡ start.head.items = written ∙ ap (λ (l : List ℕ). l ++ start.head.items) empty in
    let head : lines_of form (take start.base list) ≡ form.head = head_alone form list start.base is.base within in
    let text : octets ≡ text_of form.head = all ∙ is.text in
    record {
      base = omega (arith, is.base);
      end = ap length (sym all);
      text = text ∙ ap text_of (sym head);
      read = ap recovered text ∙ text_lines form.head is.lines ∙ sym head;
    }

-- the list has grown
pub anew_sees : (form : LogForm) (list list' : Entries) (octets : List ℕ) (anew : Anew) → IsPrefix list list' → anew.count ≤ length list → IsAnew form list octets anew → IsAnew form list' octets anew
anew_sees form list list' octets anew longer within is =
    let same : take anew.count list ≡ take anew.count list' = sym (prefix_take list list' anew.count longer within) in
    record { base = is.base; end = is.end; text = is.text ∙ ap (λ (l : Entries). text_of (lines_of form l)) same; read = is.read ∙ ap (lines_of form) same }

-- a group stands behind what it had
pub anew_more : (form : LogForm) (list : Entries) (old octets text : List ℕ) (anew next : Anew) → IsGroup form.config list anew.count next.count text → anew.count ≤ length list → octets ≡ old ++ text → next.end ≡ anew.end + length text
    → IsAnew form list old anew → IsAnew form list octets next
anew_more form list old octets text anew next group within written ends was =
    let front = lines_of form (take anew.count list) in
    let lines : AreLines front = subst AreLines was.read (are_lines [] old tt) in
    let all : front ++ recovered text ≡ lines_of form (take next.count list) = group_lines form list anew.count next.count text was.base within group in
    let spelled : octets ≡ text_of front ++ text = written ∙ ap (λ (l : List ℕ). l ++ text) was.text in
    record {
      base = omega (arith, was.base, group.later);
      end = ends ∙ ap (λ (n : ℕ). n + length text) was.end ∙ sym (length-append old text) ∙ ap length (sym written);
      text = spelled ∙ ap (λ (l : List ℕ). text_of front ++ l) (group_text form list anew.count next.count text group) ∙ sym (text_of-append front (recovered text)) ∙ ap text_of all;
      read = ap recovered spelled ∙ recovered-text_of front text lines ∙ all;
    }

module _ {D : Type 0} (seen : D → List ℕ) (may_leave : D → List ℕ → Type 0) (moment : D → ℕ) (left_since : D → ℕ → List ℕ → Type 0) (form : LogForm) where
  -- one call on the new file: what a crash leaves is as before
  pub one_call : (file : LineFile D) (new : D) (failed : Bool) (list : Entries) (count : ℕ) (acks : List Ack) → ((c : List ℕ) → left_since file.device (moment file.device) c → may_leave file.device c) → IsLog seen may_leave moment left_since form file failed list count acks
      → Elapses (moment file.device) (moment new) (left_since file.device) (left_since new) (may_leave new) → ((c : List ℕ) → may_leave new c → may_leave file.device c)
      → Leaves seen may_leave moment left_since file.device new (IsBetween (lines_of form (take count list)) (lines_of form list))
  one_call file new failed list count acks only_now log time crash =
      no_more seen may_leave moment left_since file.device file.device new _ (none_yet seen may_leave moment left_since file.device _ only_now log.now) time crash

  -- and what the log knows then
  pub called : (file new : LineFile D) (failed : Bool) (list : Entries) (count : ℕ) (acks : List Ack) → ((c : List ℕ) → left_since file.device (moment file.device) c → may_leave file.device c)
      → ((t : ℕ) (c : List ℕ) → t ≤ moment new.device → may_leave new.device c → left_since new.device t c) → Elapses (moment file.device) (moment new.device) (left_since file.device) (left_since new.device) (may_leave new.device)
      → ((c : List ℕ) → may_leave new.device c → may_leave file.device c) → IsLog seen may_leave moment left_since form file failed list count acks → IsLog seen may_leave moment left_since form new true list count acks
  called file new failed list count acks only_now counts_now time crash log =
      fails seen may_leave moment left_since form file new failed list count acks counts_now (one_call file new.device failed list count acks only_now log time crash).so_far log

  -- the new file took the place of the old one, or is about to
  pub old_or_new : (file : LineFile D) (new : D) (failed : Bool) (list : Entries) (count : ℕ) (acks : List Ack) (octets : List ℕ) (anew : Anew) → IsLog seen may_leave moment left_since form file failed list count acks → count ≤ anew.count → IsAnew form list octets anew
      → LeavesOnly moment left_since file.device new (λ c. may_leave file.device c ⊎ (c ≡ octets)) → LeavesOnly moment left_since file.device new (IsBetween (lines_of form (take count list)) (lines_of form list))
  old_or_new file new failed list count acks octets anew log later is leaves =
      let read : (c : List ℕ) → c ≡ octets → recovered c ≡ lines_of form (take anew.count list) = λ c same. ap recovered same ∙ is.read in
      let more : IsPrefix (lines_of form (take count list)) (lines_of form (take anew.count list)) = lines_begin form _ _ (takes list list count anew.count (prefix_self list) log.within later) in
      let most : IsPrefix (lines_of form (take anew.count list)) (lines_of form list) = lines_begin form _ _ (drop anew.count list, take-append-drop anew.count list) in
      leaves_more moment left_since file.device new _ _ (λ c now. ⊎_elim (log.now c) (λ same. record {
        has = subst (λ (l : List (List ℕ)). IsPrefix (lines_of form (take count list)) l) (sym (read c same)) more;
        begins = subst (λ (l : List (List ℕ)). IsPrefix l (lines_of form list)) (sym (read c same)) most;
      }) now) leaves
