use Rattle.std.proofs.Common.{take}
use Rattle.ilp_warnings.specs.Told.{IsNoneOf}
use Rattle.ilp_warnings.proofs.known.named.Given as goal

abbrev pub invariant-loop-field : goal.invariant-loop-field
invariant-loop-field l = IsNoneOf (take l.field-index l.fields) l.text
