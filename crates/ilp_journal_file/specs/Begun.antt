-- A log that begins.
use Rattle.std.specs.Prelude.{◌≡◌, ℕ, List}
use Rattle.ilp_line_file.specs.Device.{Only}

-- the device has these octets, and a crash leaves nothing else
abbrev pub HasAlone : {D : Type 0} → (D → List ℕ) → (D → List ℕ → Type 0) → List ℕ → D → Type 0
HasAlone seen may_leave octets device = (seen device ≡ octets) × Only octets (may_leave device)
