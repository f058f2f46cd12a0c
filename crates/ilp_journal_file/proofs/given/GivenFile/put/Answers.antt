use Rattle.ilp_journal_file.proofs.Unchanged.{nothing_written}
use Rattle.ilp_journal_file.proofs.given.GivenFile.put.Goals as goal

pub returns-in_default-clause-stop : goal.returns-in_default-clause-stop
returns-in_default-clause-stop g c claims = nothing_written g.R.PlacesFiles.may_leave c.args.at c.args.octets.now c.args.self.now.file
