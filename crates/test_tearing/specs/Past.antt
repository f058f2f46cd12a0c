-- What a crash might have left of a file since an earlier moment.
use Rattle.std.specs.Prelude.{ℕ, ◌⊎◌, List, [], ◌∷◌, length, drop}
use mathlib.Core.Logic.{inl, inr}
use Rattle.test_tearing.specs.Tearing.{MayLeave}
use Rattle.test_tearing.specs.declared.change.Change.{Change}
use Rattle.test_tearing.specs.declared.disk.Epoch.{Epoch}

-- between two syncs, of which there are these
abbrev pub HadLeft : List Epoch → List ℕ → Type 0
HadLeft [] left = ⊥
HadLeft (e ∷ past) left = MayLeave e.synced.items e.changes.items left ⊎ HadLeft past left

-- since there were so many of them
abbrev pub LeftSince : List Epoch → List ℕ → List Change → ℕ → List ℕ → Type 0
LeftSince past synced changes t left = MayLeave synced changes left ⊎ HadLeft (drop t past) left

none_left : (past : List Epoch) (left : List ℕ) → HadLeft (drop (length past) past) left → ⊥
none_left [] left had = had
none_left (e ∷ past) left had = none_left past left had

-- since the last of them there is what may be left now
pub only_now : (past : List Epoch) (synced : List ℕ) (changes : List Change) (left : List ℕ) → LeftSince past synced changes (length past) left → MayLeave synced changes left
only_now past synced changes left (inl now) = now
only_now past synced changes left (inr had) = absurd (none_left past left had)
