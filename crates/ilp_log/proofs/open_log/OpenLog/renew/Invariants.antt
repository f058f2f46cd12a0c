use Rattle.std.proofs.Common.{◌≡◌, ◌≤◌, ◌-◌, length}
use mathlib.Core.List.{IsPrefix}
use Rattle.ilp_line_file.specs.Device.{LeavesOnly}
use Rattle.ilp_line_file.specs.Text.{IsBetween}
use Rattle.ilp_log.specs.Lines.{lines_of}
use Rattle.ilp_log.specs.Log.{IsAnew, written}
use Rattle.ilp_log.proofs.open_log.OpenLog.renew.Given as goal

-- the new file has a beginning of what the log had
abbrev pub invariant-loop-anew : goal.invariant-loop-anew
invariant-loop-anew g l = record {
  upto : l.upto ≡ l.fn.self.count;
  first : l.fn.self.count ≤ length l.fn.self.seen;
  mine : IsPrefix l.fn.self.seen l.self.seen;
  count : l.self.count ≡ l.fn.self.count;
  within : l.anew.count ≤ length l.self.seen;
  anew : g.D.Device.claims → IsAnew g.K.LogNaming.form l.self.seen (g.D.Device.anew l.self.device) l.anew;
  leaves : g.D.Device.claims → LeavesOnly g.D.Device.moment g.D.Device.left_since l.fn.self.device l.self.device (IsBetween (lines_of g.K.LogNaming.form (written l.fn.self)) (lines_of g.K.LogNaming.form l.self.seen));
}

abbrev pub decreases-loop-anew : goal.decreases-loop-anew
decreases-loop-anew g l = l.upto - l.anew.count
