use Rattle.std.proofs.Common.{◌≤◌, Contains, IfSome}
use Rattle.ilp_warnings.specs.Told.{IsNear}
use Rattle.ilp_warnings.proofs.fields.nearest.Given as goal

abbrev pub invariant-loop-field : goal.invariant-loop-field
invariant-loop-field l = (l.enough ≤ 3) × IfSome l.nearest (λ f. Contains l.fields f × IsNear l.key f)
