use Rattle.ilp_journal_file.proofs.Unchanged.{nothing_written}
use Rattle.ilp_journal_file.proofs.log_device.LogDevice.put.Goals as goal

pub returns-in_err-expect_sound-clause-stop : goal.returns-in_err-expect_sound-clause-stop
returns-in_err-expect_sound-clause-stop g c claims = nothing_written g.R.PlacesFiles.may_leave c.args.at c.args.octets.now c.args.self.now.file.file

pub returns-in_err-expect_whole-clause-stop : goal.returns-in_err-expect_whole-clause-stop
returns-in_err-expect_whole-clause-stop g c claims = nothing_written g.R.PlacesFiles.may_leave c.args.at c.args.octets.now c.args.self.now.file.file
