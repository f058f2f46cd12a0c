-- A write that wrote nothing.
use Rattle.std.proofs.Common.{◌≡◌, ◌⊎◌, inr, ℕ, List, [], ◌∷◌, drop, refl}
use Rattle.ilp_accounts.specs.declared.settings.LogSync.{LogSync}
use Rattle.ilp_line_file.specs.Device.{IsMixed, Torn}
use Rattle.ilp_journal_file.specs.Files.{Steps}

same_is_mixed : (old octets : List ℕ) → IsMixed old octets old
same_is_mixed old [] = refl
same_is_mixed [] (b ∷ octets) = tt
same_is_mixed (o ∷ old) (b ∷ octets) = (inr refl, same_is_mixed old octets)

-- it is one of those that a stop cuts short
pub nothing_written : {F : Type 0} (may_leave : LogSync → F → List ℕ → Type 0) (at : ℕ) (octets : List ℕ) (file : F) → Steps may_leave (Torn at octets) file file
nothing_written may_leave at octets file sync left may = (left, may, record { before = refl; range = same_is_mixed (drop at left) octets })
