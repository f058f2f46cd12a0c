-- The contents that a file has had.
use Rattle.std.specs.Prelude.{◌≡◌, ◌⊎◌, ℕ, List, [], ◌∷◌, length, drop, Vec}
use mathlib.Core.Logic.{inl, inr}
use Rattle.std.specs.declared.alloc.Global.{Global}

-- one of them is this
abbrev pub HadBeen : List (Vec ℕ Global) → List ℕ → Type 0
HadBeen [] octets = ⊥
HadBeen (v ∷ past) octets = (octets ≡ v.items) ⊎ HadBeen past octets

none_left : (past : List (Vec ℕ Global)) (c : List ℕ) → HadBeen (drop (length past) past) c → ⊥
none_left [] c had = had
none_left (v ∷ past) c had = none_left past c had

-- since the last of them there is what is there now
pub only_octets : (past : List (Vec ℕ Global)) (octets c : List ℕ) → (c ≡ octets) ⊎ HadBeen (drop (length past) past) c → c ≡ octets
only_octets past octets c (inl now) = now
only_octets past octets c (inr had) = absurd (none_left past c had)
