use Rattle.std.proofs.Common.{List, ℕ, drop}
use Rattle.test_tearing.specs.Tearing.{MayLeave}
use Rattle.test_tearing.proofs.disk.Disk.left.Given as goal

-- what may be left of this by the changes to come may be left of all
abbrev pub invariant-loop-change : goal.invariant-loop-change
invariant-loop-change l =
    (c : List ℕ) → MayLeave l.left.items (drop l.change-index l.self.changes.items) c → MayLeave l.self.synced.items l.self.changes.items c
