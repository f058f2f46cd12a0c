use Rattle.ilp_journal_file.proofs.log_device.LogDeviceDevice.read.Goals as goal

pub returns-in-Ok-clause-time : goal.returns-in-Ok-clause-time
returns-in-Ok-clause-time g c claims = c.read.ensures.time claims c.args.self.now.place.sync

pub returns-in-Err-Memory-clause-time : goal.returns-in-Err-Memory-clause-time
returns-in-Err-Memory-clause-time g c claims = c.read.ensures.time claims c.args.self.now.place.sync

pub returns-in-Err-clause-time : goal.returns-in-Err-clause-time
returns-in-Err-clause-time g c claims = c.read.ensures.time claims c.args.self.now.place.sync
