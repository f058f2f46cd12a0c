use Rattle.test_tearing.proofs.Disks.{was_left}
use Rattle.test_tearing.proofs.tearing_file.TearingFileDevice.sync.Goals as goal

pub returns-clause-crash : goal.returns-clause-crash
returns-clause-crash c holds = was_left c.args.self.now.disk c.sync.new.self c.sync.ensures.synced c.sync.ensures.changes
