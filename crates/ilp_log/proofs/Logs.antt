-- What a log's steps make of what it knows.
use Rattle.std.proofs.Common.{◌≡◌, ℕ, zero, suc, ◌+◌, ◌-◌, ◌≤◌, Bool, true, false, true≢false, List, [], ◌∷◌, ◌++◌, length, take, drop, refl, sym, ◌∙◌, ap, subst, ⊎_elim, arith, take-append-drop, append_assoc}
use Rattle.std.proofs.lemmas.List.{append-nil, map-append, drop-append-le, drop_all, length-take-le}
use Rattle.std.specs.Prelude.{slice_range}
use mathlib.Core.List.{IsPrefix}
use Rattle.ilp_journal.specs.Journal.{Entries}
use Rattle.ilp_grown_list.proofs.Begins.{prefix_self, prefix_trans}
use Rattle.ilp_line_file.specs.Device.{LeavesOnly}
use Rattle.ilp_line_file.specs.Text.{recovered, text_of, IsText, IsBetween}
use Rattle.ilp_line_file.specs.File.{IsSettled}
use Rattle.ilp_line_file.specs.declared.line_file.LineFile.{LineFile}
use Rattle.ilp_line_file.proofs.Moments.{started, leaves_more}
use Rattle.ilp_line_file.proofs.Whole.{text_lines}
use Rattle.ilp_log.specs.declared.ack.Ack.{Ack}
use Rattle.ilp_log.specs.Lines.{LogForm, words_of, entry_lines, lines_of, IsGroup}
use Rattle.ilp_log.specs.Log.{HoldsAck, HoldAcks, last_ack, IsLog}
use Rattle.ilp_log.proofs.Begins.{prefix_length, prefix_take, lines_begin, takes, wider}

-- ---- groups

take_on : (xs : Entries) (from k to : ℕ) → from + k ≡ to → take from xs ++ take k (drop from xs) ≡ take to xs
take_on xs zero k to is = let same : k ≡ to = omega arith in ap (λ (n : ℕ). take n xs) same
take_on xs (suc from) k zero is = absurd (omega arith)
take_on [] (suc from) zero (suc to) is = refl
take_on [] (suc from) (suc k) (suc to) is = refl
take_on (x ∷ xs) (suc from) k (suc to) is = ap (λ (l : Entries). x ∷ l) (take_on xs from k to (omega arith))

-- the text of a group is whole lines
pub group_text : (form : LogForm) (list : Entries) (from to : ℕ) (text : List ℕ) → IsGroup form.config list from to text → IsText text
group_text form list from to text g = g.spelled.whole ∙ ap text_of (sym (text_lines _ g.spelled.lines)) ∙ ap (λ (t : List ℕ). text_of (recovered t)) (sym g.spelled.whole)

-- with the group's lines behind those before it
pub group_lines : (form : LogForm) (list : Entries) (from to : ℕ) (text : List ℕ) → form.base ≤ from → from ≤ length list → IsGroup form.config list from to text
    → lines_of form (take from list) ++ recovered text ≡ lines_of form (take to list)
group_lines form list from to text base within g =
    let front = drop form.base (take from list) in
    let more = slice_range list from to in
    let size : length (take from list) ≡ from = length-take-le from list within in
    let all : front ++ more ≡ drop form.base (take to list) =
    sym (drop-append-le form.base (take from list) more (omega (arith, base, size))) ∙ ap (λ (l : Entries). drop form.base l) (take_on list from (to - from) to (omega (arith, g.later))) in
    append_assoc form.head (entry_lines form.config front) (recovered text)
    ∙ ap (λ (l : List (List ℕ)). form.head ++ l) (
    ap (λ (l : List (List ℕ)). entry_lines form.config front ++ l) (ap recovered g.spelled.whole ∙ text_lines _ g.spelled.lines)
    ∙ sym (map-append (words_of form.config) front more)
    ∙ ap (entry_lines form.config) all
    )

-- where no entry has a line yet, the head is all
pub head_alone : (form : LogForm) (list : Entries) (count : ℕ) → form.base ≡ count → count ≤ length list → lines_of form (take count list) ≡ form.head
head_alone form list count base within =
    let none : drop form.base (take count list) ≡ [] = drop_all form.base (take count list) (omega (arith, base, length-take-le count list within)) in
    ap (λ (l : Entries). form.head ++ entry_lines form.config l) none ∙ append-nil form.head

-- ---- what was told

module _ {D : Type 0} (moment : D → ℕ) (left_since : D → ℕ → List ℕ → Type 0) where
  pub acks_wider : (device : D) (least most least' most' : List (List ℕ)) (acks : List Ack) → IsPrefix least least' → IsPrefix most most' → HoldAcks moment left_since device least most acks → HoldAcks moment left_since device least' most' acks
  acks_wider device least most least' most' [] low high told = tt
  acks_wider device least most least' most' (ack ∷ acks) low high told = (
    record {
      earlier = told.0.earlier;
      kept = prefix_trans ack.lines least least' told.0.kept low;
      each = λ c left. wider ack.lines most ack.lines most' c (prefix_self ack.lines) high (told.0.each c left);
    },
    acks_wider device least most least' most' acks low high told.1,
  )

  pub acks_moved : (old new : D) (least most : List (List ℕ)) (acks : List Ack) → LeavesOnly moment left_since old new (IsBetween least most) → HoldAcks moment left_since old least most acks → HoldAcks moment left_since new least most acks
  acks_moved old new least most [] leaves told = tt
  acks_moved old new least most (ack ∷ acks) leaves told = (
    record {
      earlier = omega (arith, told.0.earlier, leaves.later);
      kept = told.0.kept;
      each = λ c left. ⊎_elim (told.0.each c) (λ now. wider least most ack.lines most c told.0.kept (prefix_self most) now) (leaves.before ack.moment c told.0.earlier left);
    },
    acks_moved old new least most acks leaves told.1,
  )

  pub acks_snoc : (device : D) (least most : List (List ℕ)) (acks : List Ack) (ack : Ack) → HoldAcks moment left_since device least most acks → HoldsAck moment left_since device least most ack → HoldAcks moment left_since device least most (acks ++ ack ∷ [])
  acks_snoc device least most [] ack told one = (one, tt)
  acks_snoc device least most (a ∷ acks) ack told one = (told.0, acks_snoc device least most acks ack told.1 one)

  pub ack_of : (device : D) (least most : List (List ℕ)) (before : List Ack) (ack : Ack) (rest : List Ack) → HoldAcks moment left_since device least most ((before ++ ack ∷ []) ++ rest) → HoldsAck moment left_since device least most ack
  ack_of device least most [] ack rest told = told.0
  ack_of device least most (a ∷ before) ack rest told = ack_of device least most before ack rest told.1

pub last_ack-snoc : (acks : List Ack) (ack : Ack) → last_ack (acks ++ ack ∷ []) ≡ ack
last_ack-snoc [] ack = refl
last_ack-snoc (a ∷ []) ack = refl
last_ack-snoc (a ∷ b ∷ acks) ack = last_ack-snoc (b ∷ acks) ack

-- ---- the log

module _ {D : Type 0} (seen : D → List ℕ) (may_leave : D → List ℕ → Type 0) (moment : D → ℕ) (left_since : D → ℕ → List ℕ → Type 0) (form : LogForm) where
  -- over a file that has the first entries, while nothing was told
  pub opens : (file : LineFile D) (list : Entries) (count : ℕ) (acks : List Ack) → form.base ≤ count → count ≤ length list → IsSettled seen may_leave file → recovered (seen file.device) ≡ lines_of form (take count list) → acks ≡ []
      → IsLog seen may_leave moment left_since form file false list count acks
  opens file list count acks base within settled lines none = record {
    base = base;
    within = within;
    now = λ c may. let is : recovered c ≡ lines_of form (take count list) = ap recovered (settled.durable c may) ∙ lines in
        record {
          has = ([], append-nil _ ∙ sym is);
          begins = subst (λ (l : List (List ℕ)). IsPrefix l (lines_of form list)) (sym is) (lines_begin form (take count list) list (drop count list, take-append-drop count list));
        };
    settled = λ _. settled;
    whole = λ _. lines;
    told = subst (λ (l : List Ack). HoldAcks moment left_since file.device (lines_of form (take count list)) (lines_of form list) l) (sym none) tt;
  }

  -- it sees that the desk's list has grown
  pub sees : (file : LineFile D) (failed : Bool) (list list' : Entries) (count : ℕ) (acks : List Ack) → IsPrefix list list' → IsLog seen may_leave moment left_since form file failed list count acks → IsLog seen may_leave moment left_since form file failed list' count acks
  sees file failed list list' count acks longer log =
      let same : take count list' ≡ take count list = prefix_take list list' count longer log.within in
      let lines : lines_of form (take count list') ≡ lines_of form (take count list) = ap (lines_of form) same in
      let low : IsPrefix (lines_of form (take count list')) (lines_of form (take count list)) = ([], append-nil (lines_of form (take count list')) ∙ lines) in
      let low' : IsPrefix (lines_of form (take count list)) (lines_of form (take count list')) = ([], append-nil (lines_of form (take count list)) ∙ sym lines) in
      let high = lines_begin form list list' longer in
      record {
        base = log.base;
        within = omega (arith, log.within, prefix_length list list' longer);
        now = λ c may. wider _ _ _ _ c low high (log.now c may);
        settled = log.settled;
        whole = λ ok. log.whole ok ∙ sym lines;
        told = acks_wider moment left_since file.device _ _ _ _ acks low' high log.told;
      }

  -- what a crash leaves while the device isn't called
  pub stays : (file : LineFile D) (failed : Bool) (list list' : Entries) (count : ℕ) (acks : List Ack) → ((c : List ℕ) → left_since file.device (moment file.device) c → may_leave file.device c) → IsPrefix list list' → IsLog seen may_leave moment left_since form file failed list count acks
      → LeavesOnly moment left_since file.device file.device (IsBetween (lines_of form (take count list)) (lines_of form list'))
  stays file failed list list' count acks only_now longer log = started moment left_since file.device _ (λ c left. wider _ _ _ _ c (prefix_self _) (lines_begin form list list' longer) (log.now c (only_now c left)))

  -- an append of a group, whatever came of it
  pub leaves : (file : LineFile D) (new : D) (list : Entries) (count to : ℕ) (text : List ℕ) (acks : List Ack) → IsLog seen may_leave moment left_since form file false list count acks → IsGroup form.config list count to text
      → LeavesOnly moment left_since file.device new (IsBetween (recovered (seen file.device)) (recovered (seen file.device) ++ recovered text))
      → LeavesOnly moment left_since file.device new (IsBetween (lines_of form (take count list)) (lines_of form list))
  leaves file new list count to text acks log g is =
      let was = log.whole refl in
      let all : recovered (seen file.device) ++ recovered text ≡ lines_of form (take to list) = ap (λ (l : List (List ℕ)). l ++ recovered text) was ∙ group_lines form list count to text log.base log.within g in
      let low : IsPrefix (lines_of form (take count list)) (recovered (seen file.device)) = ([], append-nil _ ∙ sym was) in
      let high : IsPrefix (recovered (seen file.device) ++ recovered text) (lines_of form list) = subst (λ (l : List (List ℕ)). IsPrefix l (lines_of form list)) (sym all) (lines_begin form (take to list) list (drop to list, take-append-drop to list)) in
      leaves_more moment left_since file.device new _ _ (λ c now. wider _ _ _ _ c low high now) is

  -- whatever came of a call, of which nothing is said
  pub fails : (file new : LineFile D) (failed : Bool) (list : Entries) (count : ℕ) (acks : List Ack) → ((t : ℕ) (c : List ℕ) → t ≤ moment new.device → may_leave new.device c → left_since new.device t c)
      → LeavesOnly moment left_since file.device new.device (IsBetween (lines_of form (take count list)) (lines_of form list)) → IsLog seen may_leave moment left_since form file failed list count acks → IsLog seen may_leave moment left_since form new true list count acks
  fails file new failed list count acks counts_now leaves log = record {
    base = log.base;
    within = log.within;
    now = λ c may. leaves.each c (counts_now (moment file.device) c leaves.later may);
    settled = λ ok. absurd (true≢false ok);
    whole = λ ok. absurd (true≢false ok);
    told = acks_moved moment left_since file.device new.device _ _ acks leaves log.told;
  }

  -- the file has the lines of more entries now, and no other
  pub renewed : (file new : LineFile D) (failed : Bool) (list : Entries) (count to : ℕ) (acks : List Ack) → count ≤ to → to ≤ length list → LeavesOnly moment left_since file.device new.device (IsBetween (lines_of form (take count list)) (lines_of form list))
      → IsSettled seen may_leave new → recovered (seen new.device) ≡ lines_of form (take to list) → IsLog seen may_leave moment left_since form file failed list count acks → IsLog seen may_leave moment left_since form new false list to acks
  renewed file new failed list count to acks later within leaves settled all log =
      let most : IsPrefix (lines_of form (take to list)) (lines_of form list) = lines_begin form (take to list) list (drop to list, take-append-drop to list) in
      let more : IsPrefix (lines_of form (take count list)) (lines_of form (take to list)) = lines_begin form _ _ (takes list list count to (prefix_self list) log.within later) in
      record {
        base = omega (arith, log.base, later);
        within = within;
        now = λ c may. let is : recovered c ≡ lines_of form (take to list) = ap recovered (settled.durable c may) ∙ all in
            record { has = ([], append-nil _ ∙ sym is); begins = subst (λ (l : List (List ℕ)). IsPrefix l (lines_of form list)) (sym is) most };
        settled = λ _. settled;
        whole = λ _. all;
        told = acks_wider moment left_since new.device _ _ _ _ acks more (prefix_self _) (acks_moved moment left_since file.device new.device _ _ acks leaves log.told);
      }

  -- a group was appended
  pub goes_on : (file new : LineFile D) (list : Entries) (count to : ℕ) (text : List ℕ) (acks : List Ack) → IsGroup form.config list count to text
      → LeavesOnly moment left_since file.device new.device (IsBetween (lines_of form (take count list)) (lines_of form list)) → IsSettled seen may_leave new → recovered (seen new.device) ≡ recovered (seen file.device) ++ recovered text
      → IsLog seen may_leave moment left_since form file false list count acks → IsLog seen may_leave moment left_since form new false list to acks
  goes_on file new list count to text acks g leaves settled lines log =
      let all : recovered (seen new.device) ≡ lines_of form (take to list) = lines ∙ ap (λ (l : List (List ℕ)). l ++ recovered text) (log.whole refl) ∙ group_lines form list count to text log.base log.within g in
      renewed file new false list count to acks g.later g.within leaves settled all log

  -- it tells what is on the disk now
  pub tells : (file : LineFile D) (list : Entries) (count : ℕ) (acks : List Ack) → ((c : List ℕ) → left_since file.device (moment file.device) c → may_leave file.device c) → IsLog seen may_leave moment left_since form file false list count acks
      → IsLog seen may_leave moment left_since form file false list count (acks ++ (record { moment = moment file.device; lines = recovered (seen file.device) }) ∷ [])
  tells file list count acks only_now log =
      let was = log.whole refl in
      record {
        base = log.base;
        within = log.within;
        now = log.now;
        settled = log.settled;
        whole = log.whole;
        told = acks_snoc moment left_since file.device _ _ acks _ log.told (record {
          earlier = omega arith;
          kept = ([], append-nil _ ∙ was);
          each = λ c left. wider _ _ _ _ c ([], append-nil _ ∙ was) (prefix_self _) (log.now c (only_now c left));
        });
      }
