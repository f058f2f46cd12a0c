-- What a disk has behind one more change, and behind a sync.
use Rattle.std.proofs.Common.{◌≡◌, ◌⊎◌, inl, inr, ⊎_elim, ℕ, ◌≤◌, List, [], ◌∷◌, ◌++◌, length, min, refl, sym, ◌∙◌, ap, subst, arith}
use Rattle.std.specs.Prelude.{Result, Ok, Err, OnOk}
use Rattle.std.proofs.lemmas.List.{take_all}
use Rattle.ilp_line_file.specs.Device.{Cut, Elapses}
use Rattle.test_tearing.specs.declared.change.Change.{Change}
use Rattle.test_tearing.specs.declared.change.Change.TheVariants as change
use Rattle.test_tearing.specs.declared.disk.Disk.{Disk}
use Rattle.test_tearing.specs.declared.disk.Epoch.{Epoch}
use Rattle.test_tearing.specs.Tearing.{changed, MayChange, after, MayLeave}
use Rattle.test_tearing.specs.Past.{LeftSince}
use Rattle.test_tearing.specs.Files.{seen, Leaves, LeavesSince}
use Rattle.test_tearing.proofs.Changes.{may_leave_all, after_one_more, leaves_one_more, left_of_one_more, cut_some}
use Rattle.test_tearing.proofs.Epochs.{elapses_more}

pub on_ok : {T E : Type 0} (r : Result T E) (P : Type 0) → P → OnOk r P
on_ok (Ok x) P p = p
on_ok (Err e) P p = tt

-- nothing need be left of a cut
pub uncut : (len : ℕ) (d : List ℕ) → Cut (min len (length d)) d d
uncut len d = record { no_shorter = omega arith; front = take_all (length d) d (omega arith) }

-- ---- all is synced

module _ (new : Disk) (none : new.changes.items ≡ []) where
  pub synced_leaves : (c : List ℕ) → c ≡ new.synced.items → Leaves new c
  synced_leaves c is = subst (λ (cs : List Change). MayLeave new.synced.items cs c) (sym none) is

  pub synced_only : (c : List ℕ) → Leaves new c → c ≡ new.synced.items
  synced_only c left = subst (λ (cs : List Change). MayLeave new.synced.items cs c) none left

-- what a read returned may have been left
pub was_left : (old new : Disk) → new.synced.items ≡ seen old → new.changes.items ≡ [] → (c : List ℕ) → Leaves new c → Leaves old c
was_left old new synced none c left =
    subst (λ (l : List ℕ). Leaves old l) (sym (synced_only new none c left ∙ synced)) (may_leave_all old.synced.items old.changes.items)

-- ---- nothing was synced

module _ (old new : Disk) (synced : new.synced.items ≡ old.synced.items) where
  of_old : (c : List ℕ) → Leaves new c → MayLeave old.synced.items new.changes.items c
  of_old c left = subst (λ (s : List ℕ). MayLeave s new.changes.items c) synced left

  to_new : (c : List ℕ) → MayLeave old.synced.items new.changes.items c → Leaves new c
  to_new c left = subst (λ (s : List ℕ). MayLeave s new.changes.items c) (sym synced) left

  -- nor changed
  pub same_left : new.changes.items ≡ old.changes.items → (c : List ℕ) → Leaves new c → Leaves old c
  same_left same c left = subst (λ (cs : List Change). MayLeave old.synced.items cs c) same (of_old c left)

  -- one more change
  module _ (x : Change) (more : new.changes.items ≡ old.changes.items ++ x ∷ []) where
    pub added_seen : seen new ≡ changed x (seen old)
    added_seen =
        ap (λ (s : List ℕ). after s new.changes.items) synced
        ∙ ap (λ (cs : List Change). after old.synced.items cs) more
        ∙ after_one_more old.synced.items old.changes.items x

    pub added_left : (c : List ℕ) → Leaves new c → (d : List ℕ) × Leaves old d × MayChange x d c
    added_left c left = left_of_one_more old.synced.items old.changes.items x c (subst (λ (cs : List Change). MayLeave old.synced.items cs c) more (of_old c left))

    module _ (nothing : (d : List ℕ) → MayChange x d d) where
      pub adds : (c : List ℕ) → Leaves old c → Leaves new c
      adds c left =
          to_new c (subst (λ (cs : List Change). MayLeave old.synced.items cs c) (sym more) (leaves_one_more old.synced.items old.changes.items x c c left (nothing c)))

      pub added_time : new.past.items ≡ old.past.items → Elapses (length old.past.items) (length new.past.items) (LeavesSince old) (LeavesSince new) (Leaves new)
      added_time past =
          let grown = elapses_more old.past.items old.synced.items old.changes.items new.changes.items (λ c left. of_old c (adds c left)) in
          subst (λ (p : List Epoch). Elapses (length old.past.items) (length p) (LeavesSince old) (LeftSince p new.synced.items new.changes.items) (Leaves new)) (sym past)
          (subst (λ (s : List ℕ). Elapses (length old.past.items) (length old.past.items) (LeavesSince old) (LeftSince old.past.items s new.changes.items) (MayLeave s new.changes.items)) (sym synced) grown)

-- ---- a cut of what is synced

module _ (old mid : Disk) (len : ℕ) (synced : mid.synced.items ≡ seen old) (none : mid.changes.items ≡ []) (within : len ≤ length (seen old)) where
  abbrev CutOf : List ℕ → Type 0
  CutOf c = (d : List ℕ) × Leaves old d × Cut len d c

  of_seen : (c : List ℕ) → Cut (min len (length (seen old))) (seen old) c → CutOf c
  of_seen c cut =
      let all : min len (length (seen old)) ≡ len = omega (arith, within) in
      (seen old, may_leave_all old.synced.items old.changes.items, subst (λ (n : ℕ). Cut n (seen old) c) all cut)

  pub not_cut : (c : List ℕ) → Leaves mid c → CutOf c
  not_cut c left =
      subst CutOf (sym (synced_only mid none c left ∙ synced)) (of_seen (seen old) (uncut len (seen old)))

  pub is_cut : (new : Disk) → new.synced.items ≡ mid.synced.items → new.changes.items ≡ mid.changes.items ++ change.Cut len ∷ [] → (c : List ℕ) → Leaves new c → CutOf c
  is_cut new same more c left =
      let from = added_left mid new same (change.Cut len) more c left in
      let whole : from.0 ≡ seen old = synced_only mid none from.0 from.1 ∙ synced in
      of_seen c (subst (λ (d : List ℕ). Cut (min len (length d)) d c) whole from.2)
