use Rattle.test_tearing.proofs.Epochs.{elapses_to}
use Rattle.test_tearing.proofs.disk.Disk.place.Goals as goal

pub returns-clause-time : goal.returns-clause-time
returns-clause-time c =
    let past = c.settle.ensures.past in
    let old = c.args.self.now in
    elapses_to old.past.items c.settle.new.past.items past.0 old.synced.items old.changes.items c.settle.new.synced.items c.settle.new.changes.items past.1 past.2 past.3
