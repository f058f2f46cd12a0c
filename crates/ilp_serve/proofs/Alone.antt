-- A log that has its head alone, as a period begins with it.
use Rattle.std.proofs.Common.{◌≡◌, ℕ, List, Option, Some, IfSome, subst}
use Rattle.std.specs.Option.{ForSome}
use Rattle.ilp_log.specs.declared.start.BegunLog.{BegunLog}
use Rattle.ilp_running.specs.Logging as running
use Rattle.ilp_starting.specs.GoingOn as starting

pub alone_as : {D : Type 0} (seen : D → List ℕ) (may_leave : D → List ℕ → Type 0) (log : BegunLog D) → starting.IsAlone seen may_leave log
    → ForSome (Some log) (running.IsAlone seen may_leave)
alone_as {D} seen may_leave log alone other is =
    subst (λ (o : Option (BegunLog D)). IfSome o (λ (l : BegunLog D). running.IsAlone seen may_leave l)) is
    (record { read = alone.read; kept = alone.kept; end = alone.end; lines = alone.lines })
