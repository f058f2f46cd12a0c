-- What calls change of a file, and what a crash may leave of that.
use Rattle.std.specs.Prelude.{◌≡◌, ◌⊎◌, ℕ, zero, suc, List, [], ◌∷◌, ◌++◌, length, take, drop, min}
use Rattle.ilp_line_file.specs.Device.{Torn, Cut}
use Rattle.test_tearing.specs.declared.change.Change.{Change}
use Rattle.test_tearing.specs.declared.change.Change.TheVariants as change

-- a file with these octets at this offset; behind the end it stays as it is
abbrev pub put : ℕ → List ℕ → List ℕ → List ℕ
put zero octets old = octets ++ drop (length octets) old
put (suc at) octets [] = []
put (suc at) octets (o ∷ old) = o ∷ put at octets old

-- what a read returns behind a change
abbrev pub changed : Change → List ℕ → List ℕ
changed (change.Write at octets) old = put at octets.items old
changed (change.Cut len) old = take len old
changed (change.Place octets) old = old

-- a crash may leave this of a change that was not synced
abbrev pub MayChange : Change → List ℕ → List ℕ → Type 0
MayChange (change.Write at octets) old new = Torn at octets.items old new
MayChange (change.Cut len) old new = Cut (min len (length old)) old new
MayChange (change.Place octets) old new = (new ≡ old) ⊎ (new ≡ octets.items)

-- what a read returns behind changes
abbrev pub after : List ℕ → List Change → List ℕ
after synced [] = synced
after synced (c ∷ changes) = after (changed c synced) changes

-- a crash may leave this of changes that were not synced
abbrev pub MayLeave : List ℕ → List Change → List ℕ → Type 0
MayLeave synced [] left = left ≡ synced
MayLeave synced (c ∷ changes) left = (one : List ℕ) × MayChange c synced one × MayLeave one changes left
