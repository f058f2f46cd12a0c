-- One more epoch joins those that a file has had.
use Rattle.std.proofs.Common.{◌≡◌, ◌⊎◌, inl, inr, ⊎_elim, ℕ, zero, suc, ◌≤◌, List, [], ◌∷◌, ◌++◌, length, drop, refl, sym, ◌∙◌, subst, arith, length-append}
use Rattle.ilp_line_file.specs.Device.{Elapses}
use Rattle.test_tearing.specs.declared.change.Change.{Change}
use Rattle.test_tearing.specs.declared.disk.Epoch.{Epoch}
use Rattle.test_tearing.specs.Tearing.{MayLeave}
use Rattle.test_tearing.specs.Past.{HadLeft, LeftSince}

abbrev LeftIn : Epoch → List ℕ → Type 0
LeftIn e left = MayLeave e.synced.items e.changes.items left

keeps : (past : List Epoch) (e : Epoch) (c : List ℕ) → HadLeft past c → HadLeft (past ++ e ∷ []) c
keeps [] e c had = absurd had
keeps (p ∷ past) e c (inl here) = inl here
keeps (p ∷ past) e c (inr there) = inr (keeps past e c there)

adds : (past : List Epoch) (e : Epoch) (c : List ℕ) → HadLeft (past ++ e ∷ []) c → HadLeft past c ⊎ LeftIn e c
adds [] e c (inl here) = inr here
adds [] e c (inr none) = absurd none
adds (p ∷ past) e c (inl here) = inl (inl here)
adds (p ∷ past) e c (inr there) = ⊎_elim (λ had. inl (inr had)) (λ new. inr new) (adds past e c there)

newest : (past : List Epoch) (e : Epoch) (c : List ℕ) → LeftIn e c → HadLeft (past ++ e ∷ []) c
newest [] e c is = inl is
newest (p ∷ past) e c is = inr (newest past e c is)

drop_push : (t : ℕ) (past : List Epoch) (e : Epoch) → t ≤ length past → drop t (past ++ e ∷ []) ≡ drop t past ++ e ∷ []
drop_push zero past e le = refl
drop_push (suc t) [] e le = absurd (omega (arith, le))
drop_push (suc t) (p ∷ past) e le = drop_push t past e (omega (arith, le))

-- a change more, of which a crash may leave nothing
pub elapses_more : (past : List Epoch) (synced : List ℕ) (old new : List Change) → ((c : List ℕ) → MayLeave synced old c → MayLeave synced new c)
    → Elapses (length past) (length past) (LeftSince past synced old) (LeftSince past synced new) (MayLeave synced new)
elapses_more past synced old new grows = record {
  later = omega arith;
  nothing_else = λ t c le left. ⊎_elim (λ now. inr now) (λ had. inl (inr had)) left;
  keeps = λ t c le left. ⊎_elim (λ now. inl (grows c now)) (λ had. inr had) left;
}

-- a sync
pub elapses_to : (past later : List Epoch) (e : Epoch) (old : List ℕ) (changes : List Change) (new : List ℕ) (next : List Change)
    → e.synced.items ≡ old → e.changes.items ≡ changes → later ≡ past ++ e ∷ []
    → Elapses (length past) (length later) (LeftSince past old changes) (LeftSince later new next) (MayLeave new next)
elapses_to past later e old changes new next same_synced same_changes same =
    subst (λ (l : List Epoch). Elapses (length past) (length l) (LeftSince past old changes) (LeftSince l new next) (MayLeave new next)) (sym same) (record {
      later = omega (arith, length-append past (e ∷ []));
      nothing_else = λ t c le left. ⊎_elim (λ now. inr now) (λ had. inl (was t c (adds (drop t past) e c (subst (λ (l : List Epoch). HadLeft l c) (drop_push t past e le) had)))) left;
      keeps = λ t c le left. inr (subst (λ (l : List Epoch). HadLeft l c) (sym (drop_push t past e le)) (⊎_elim (λ now. newest (drop t past) e c (to_it c now)) (keeps (drop t past) e c) left));
    })
  where
    of_it : (c : List ℕ) → LeftIn e c → MayLeave old changes c
    of_it c is = subst (λ (l : List Change). MayLeave old l c) same_changes (subst (λ (o : List ℕ). MayLeave o e.changes.items c) same_synced is)

    to_it : (c : List ℕ) → MayLeave old changes c → LeftIn e c
    to_it c is = subst (λ (o : List ℕ). MayLeave o e.changes.items c) (sym same_synced) (subst (λ (l : List Change). MayLeave old l c) (sym same_changes) is)

    was : (t : ℕ) (c : List ℕ) → HadLeft (drop t past) c ⊎ LeftIn e c → LeftSince past old changes t c
    was t c (inl had) = inr had
    was t c (inr new) = inl (of_it c new)

-- one step and then another, which may also leave what a crash might have left before
pub elapses_twice : {mid_moment new_moment : ℕ} (old_moment : ℕ) (past mid new : ℕ → List ℕ → Type 0) (one two : List ℕ → Type 0)
    → Elapses old_moment mid_moment past mid one → Elapses mid_moment new_moment mid new two
    → ((t : ℕ) (c : List ℕ) → t ≤ old_moment → one c → past t c ⊎ two c)
    → Elapses old_moment new_moment past new two
elapses_twice {mid_moment = m} {new_moment = n} old_moment past mid new one two first second between = record {
  later = omega (arith, first.later, second.later);
  nothing_else = λ t c le left. ⊎_elim (λ was. ⊎_elim (λ earlier. inl earlier) (between t c le) (first.nothing_else t c le was)) (λ now. inr now)
      (second.nothing_else t c (omega (arith, le, first.later)) left);
  keeps = λ t c le left. second.keeps t c (omega (arith, le, first.later)) (first.keeps t c le left);
}
