-- Time goes on for a file that is kept in one way.
use Rattle.std.proofs.Common.{◌≡◌, ℕ, List, sym, subst}
use Rattle.ilp_accounts.specs.declared.settings.LogSync.{LogSync}
use Rattle.ilp_line_file.specs.Device.{Elapses}
use Rattle.ilp_journal_file.specs.Files.{Lasts}

pub lasts_as : {F : Type 0} (may_leave : LogSync → F → List ℕ → Type 0) (moment : F → ℕ) (left_since : LogSync → F → ℕ → List ℕ → Type 0) (one other : LogSync) (old new : F)
    → Lasts may_leave moment left_since old new → other ≡ one → Elapses (moment old) (moment new) (left_since one old) (left_since other new) (may_leave other new)
lasts_as may_leave moment left_since one other old new lasts same =
    subst (λ (sync : LogSync). Elapses (moment old) (moment new) (left_since one old) (left_since sync new) (may_leave sync new)) (sym same) (lasts one)
