-- What the calls of a device do to its file, and what a crash may do between two syncs.
use Rattle.std.specs.Prelude.{◌≡◌, ◌⊎◌, ℕ, ◌+◌, ◌≤◌, ◌<◌, List, [], ◌∷◌, ◌++◌, length, take, drop, Result, IsErrOf}
use Rattle.ilp_line_file.specs.declared.device.DeviceFault.{DeviceFault}
use Rattle.ilp_line_file.specs.declared.device.DeviceFault.TheVariants.{Failed}

-- new is old with these octets at this offset
abbrev pub Holds : List ℕ → ℕ → List ℕ → List ℕ → Type 0
Holds old at octets new = new ≡ take at old ++ octets ++ drop (at + length octets) old

-- Each octet of the written range is the old one or the new one, and behind the range all is old. Past the old end, where the file
-- may also end, an old octet is 0.
abbrev pub IsMixed : List ℕ → List ℕ → List ℕ → Type 0
IsMixed old [] mixed = mixed ≡ old
IsMixed [] (b ∷ octets) [] = Unit {0}
IsMixed [] (b ∷ octets) (m ∷ mixed) = ((m ≡ b) ⊎ (m ≡ 0)) × IsMixed [] octets mixed
IsMixed (o ∷ old) (b ∷ octets) [] = ⊥
IsMixed (o ∷ old) (b ∷ octets) (m ∷ mixed) = ((m ≡ b) ⊎ (m ≡ o)) × IsMixed old octets mixed

-- after a write of these octets that a crash cuts short
pub record Torn (at : ℕ) (octets old new : List ℕ) : Type 0 where
  pub before : take at new ≡ take at old
  pub range : IsMixed (drop at old) octets (drop at new)

-- after a cut: some length between
pub record Cut (n : ℕ) (old new : List ℕ) : Type 0 where
  pub no_shorter : n ≤ length new
  pub front : take (length new) old ≡ new

-- each new outcome of a crash is an old outcome after a step
abbrev pub Follows : (List ℕ → List ℕ → Type 0) → (List ℕ → Type 0) → (List ℕ → Type 0) → Type 0
Follows step old new = (c : List ℕ) → new c → (d : List ℕ) × old d × step d c

-- a crash leaves this and nothing else
abbrev pub Only : List ℕ → (List ℕ → Type 0) → Type 0
Only file outcomes = (c : List ℕ) → outcomes c → c ≡ file

-- Time goes on: a crash since t might have left what it might have left before, or what it may leave now.
pub record Elapses (before now : ℕ) (past since : ℕ → List ℕ → Type 0) (may_leave : List ℕ → Type 0) : Type 0 where
  pub later : before ≤ now
  pub nothing_else : (t : ℕ) (c : List ℕ) → t ≤ before → since t c → past t c ⊎ may_leave c
  pub keeps : (t : ℕ) (c : List ℕ) → t ≤ before → past t c → since t c

-- A crash at any moment since old leaves a file that has P.
pub record LeavesOnly {D : Type 0} (moment : D → ℕ) (left_since : D → ℕ → List ℕ → Type 0) (old new : D) (P : List ℕ → Type 0) : Type 0 where
  pub later : moment old ≤ moment new
  pub each : (c : List ℕ) → left_since new (moment old) c → P c
  -- for a run that began earlier
  pub before : (t : ℕ) (c : List ℕ) → t ≤ moment old → left_since new t c → left_since old t c ⊎ P c

-- The disk's faults are counted, and it is said to have failed only where it has.
pub record HasCause {T : Type 0} (before now : ℕ) (result : Result T DeviceFault) : Type 0 where
  pub later : before ≤ now
  pub failed : IsErrOf result Failed → before < now
