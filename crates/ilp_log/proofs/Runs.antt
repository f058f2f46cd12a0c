-- What a run of groups leaves and tells.
use Rattle.std.proofs.Common.{ℕ, ◌≤◌, List, length, take, Result, Ok, Err, IfOk}
use mathlib.Core.List.{IsPrefix}
use Rattle.ilp_line_file.specs.Device.{LeavesOnly}
use Rattle.ilp_line_file.specs.Text.{IsBetween}
use Rattle.ilp_journal.specs.Journal.{Entries}
use Rattle.ilp_log.specs.Lines.{LogForm, lines_of}
use Rattle.ilp_grown_list.proofs.Begins.{prefix_self}
use Rattle.ilp_log.proofs.Begins.{lines_begin, takes, wider}
use Rattle.ilp_line_file.proofs.Moments.{leaves_more, one_after_other}

-- groups written so far, and one more call
pub one_more_group : {D : Type 0} (moment : D → ℕ) (left_since : D → ℕ → List ℕ → Type 0) (form : LogForm) (old mid new : D) (list seen r r' : Entries) (n m : ℕ)
    → n ≤ length list → IsPrefix list r → IsPrefix r r' → IsPrefix list seen → n ≤ m
    → LeavesOnly moment left_since old mid (IsBetween (lines_of form (take n list)) (lines_of form r))
    → LeavesOnly moment left_since mid new (IsBetween (lines_of form (take m seen)) (lines_of form r'))
    → LeavesOnly moment left_since old new (IsBetween (lines_of form (take n list)) (lines_of form r'))
one_more_group moment left_since form old mid new list seen r r' n m within begins more mine later first second =
    let low = lines_begin form (take n list) (take m seen) (takes list seen n m mine within later) in
    one_after_other moment left_since old mid new _
    (leaves_more moment left_since old mid _ _ (λ c is. wider _ _ _ _ c (prefix_self _) (lines_begin form r r' more) is) first)
    (leaves_more moment left_since mid new _ _ (λ c is. wider _ _ _ _ c low (prefix_self _) is) second)

pub if_ok : {T E : Type 0} (P Q : T → Type 0) (r : Result T E) → ((t : T) → P t → Q t) → IfOk r P → IfOk r Q
if_ok P Q (Ok t) all is = all t is
if_ok P Q (Err e) all is = is
