use Rattle.std.proofs.Common.{inr, length}
use Rattle.test_tearing.specs.Files.{LeavesSince, Leaves}
use Rattle.test_tearing.specs.declared.change.Change.TheVariants as change
use Rattle.test_tearing.proofs.Disks.{uncut, not_cut, is_cut, same_left, adds, added_time}
use Rattle.test_tearing.proofs.Epochs.{elapses_twice}
use Rattle.test_tearing.proofs.tearing_file.TearingFileDevice.cut.Goals as goal

pub returns-in_err-next-clause-crash : goal.returns-in_err-next-clause-crash
returns-in_err-next-clause-crash c holds = not_cut c.args.self.now.disk c.sync.new.self c.args.len c.sync.ensures.synced c.sync.ensures.changes (c.requires holds)

pub returns-in_err-add-clause-crash : goal.returns-in_err-add-clause-crash
returns-in_err-add-clause-crash c holds x left =
    not_cut c.args.self.now.disk c.sync.new.self c.args.len c.sync.ensures.synced c.sync.ensures.changes (c.requires holds) x
    (same_left c.sync.new.self c.add.new.self c.add.ensures.synced c.in_err-add.ensures.err x left)

pub returns-clause-crash : goal.returns-clause-crash
returns-clause-crash c holds =
    is_cut c.args.self.now.disk c.sync.new.self c.args.len c.sync.ensures.synced c.sync.ensures.changes (c.requires holds) c.add.new.self c.add.ensures.synced c.in_ok-add.ensures.ok

pub returns-clause-time : goal.returns-clause-time
returns-clause-time c holds =
    let old = c.args.self.now.disk in
    let mid = c.sync.new.self in
    let new = c.add.new.self in
    let more = c.in_ok-add.ensures.ok in
    let nothing = uncut c.args.len in
    elapses_twice (length old.past.items) (LeavesSince old) (LeavesSince mid) (LeavesSince new) (Leaves mid) (Leaves new) c.sync.ensures.time
    (added_time mid new c.add.ensures.synced (change.Cut c.args.len) more nothing c.add.ensures.past)
    (λ t x le left. inr (adds mid new c.add.ensures.synced (change.Cut c.args.len) more nothing x left))
