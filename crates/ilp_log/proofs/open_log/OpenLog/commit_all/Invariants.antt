use Rattle.std.proofs.Common.{◌≡◌, ◌≤◌, ◌-◌, length}
use mathlib.Core.List.{IsPrefix}
use Rattle.ilp_line_file.specs.Device.{LeavesOnly}
use Rattle.ilp_line_file.specs.Text.{IsBetween}
use Rattle.ilp_log.specs.Lines.{lines_of}
use Rattle.ilp_log.specs.Log.{written}
use Rattle.ilp_log.proofs.open_log.OpenLog.commit_all.Given as goal

abbrev pub invariant-loop-alloc : goal.invariant-loop-alloc
invariant-loop-alloc g l = record {
  book : l.book ≡ l.fn.book;
  upto : l.upto ≡ length l.fn.book.entries;
  seen : l.self.seen ≡ l.fn.book.entries;
  mine : IsPrefix l.fn.self.seen l.fn.book.entries;
  first : l.fn.self.count ≤ length l.fn.self.seen;
  count : l.fn.self.count ≤ l.self.count;
  leaves : g.D.Device.claims → LeavesOnly g.D.Device.moment g.D.Device.left_since l.fn.self.device l.self.device (IsBetween (lines_of g.K.LogNaming.form (written l.fn.self)) (lines_of g.K.LogNaming.form l.fn.book.entries));
}

abbrev pub decreases-loop-alloc : goal.decreases-loop-alloc
decreases-loop-alloc g l = l.upto - l.self.count
