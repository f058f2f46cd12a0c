use Rattle.std.proofs.Common.{◌≡◌, ◌++◌, List, ℕ, map}
use Rattle.std.specs.Borrow.{Bor}
use Rattle.std.specs.List.{flat_map}
use Rattle.ilp_log_text.specs.Remembering.{whole_line}
use Rattle.ilp_log_text.proofs.remembering.put_parts.Given as goal

-- the lines of the parts so far
abbrev pub invariant-loop-part : goal.invariant-loop-part
invariant-loop-part l = l.text.items ≡ l.initial.text.items ++ flat_map whole_line (map (λ (part : Bor (List ℕ)). part.now) l.yielded)
