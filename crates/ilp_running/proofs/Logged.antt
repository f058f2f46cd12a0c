-- A log that has all of a book's entries.
use Rattle.std.proofs.Common.{◌≡◌, ℕ, List, [], ◌∷◌, refl, subst, ◌∙◌}
use Rattle.std.specs.Prelude.{Option, Some, None, IfSome}
use mathlib.Core.List.{IsPrefix}
use Rattle.ilp_journal.specs.Journal.{Entries}
use Rattle.ilp_line_file.specs.Text.{recovered, IsBetween}
use Rattle.ilp_log.specs.declared.ack.Ack.{Ack}
use Rattle.ilp_log.specs.Lines.{LogForm, lines_of}
use Rattle.ilp_log.specs.Log.{IsAllKept}
use Rattle.ilp_running.specs.Logging.{told_at, EndsLog, IsLogged, IsToldFirst}

-- lists of which each begins the other
same : {A : Type 0} (xs ys : List A) → IsPrefix xs ys → IsPrefix ys xs → ys ≡ xs
same [] [] p q = refl
same [] (y ∷ ys) p q = absurd (cc (q.1))
same (x ∷ xs) [] p q = absurd (cc (p.1))
same (x ∷ xs) (y ∷ ys) p q = let rest : ys ≡ xs = same xs ys (p.0, cc (p.1)) (q.0, cc (q.1)) in cc (rest, p.1)

module _ {D : Type 0} (seen : D → List ℕ) (may_leave : D → List ℕ → Type 0) (moment : D → ℕ) (left_since : D → ℕ → List ℕ → Type 0) where
  -- What was told last is all, and a crash since then left it at least and no more.
  pub is_logged : (form : LogForm) (entries : Entries) (device : D) (first last : Ack) → first.lines ≡ form.head
      → ((c : List ℕ) → left_since device first.moment c → IsBetween first.lines (lines_of form entries) c)
      → IsAllKept seen moment device (lines_of form entries) last
      → ((c : List ℕ) → left_since device last.moment c → IsBetween last.lines (lines_of form entries) c)
      → ((c : List ℕ) → may_leave device c → left_since device last.moment c)
      → IsLogged seen may_leave left_since form first.moment entries device
  is_logged form entries device first last head since all each now = record {
    whole = all.read ∙ all.same;
    now = λ c left.
        let between = each c (now c left) in
        same (lines_of form entries) (recovered c) (subst (λ (l : List (List ℕ)). IsPrefix l (recovered c)) all.same between.has) between.begins;
    since = λ c left. subst (λ (l : List (List ℕ)). IsBetween l (lines_of form entries) c) head (since c left);
  }

  -- A log that told its head as it began has ended since then.
  pub ends_since : (form : LogForm) (began : ℕ) (first : Option Ack) (entries : Entries) (log : Option D) → IfSome first (IsToldFirst form began)
      → EndsLog seen may_leave left_since form (told_at first) entries log → EndsLog seen may_leave left_since form (Some began) entries log
  ends_since form began first entries None told ends = tt
  ends_since form began None entries (Some device) told ends = absurd ends
  ends_since form began (Some first) entries (Some device) told ends = subst (λ (t : ℕ). IsLogged seen may_leave left_since form t entries device) told.when ends
