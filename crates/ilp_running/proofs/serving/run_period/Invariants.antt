use Rattle.ilp_running.proofs.serving.run_period.Given as goal
use Rattle.ilp_running.specs.Logging.{form_of}
use Rattle.ilp_running.specs.Serving.{desk_of}

abbrev pub ghosts-serve_desk-J-Ledger : goal.ghosts-serve_desk-J-Ledger
ghosts-serve_desk-J-Ledger g a = record { name = a.blanks.name; parts = a.blanks.parts }

abbrev pub ghosts-serve_desk-J-Naming : goal.ghosts-serve_desk-J-Naming
ghosts-serve_desk-J-Naming g a = record { desk = desk_of a.config.now a.book; list = a.list }

abbrev pub ghosts-serve_desk-K-ListNaming : goal.ghosts-serve_desk-K-ListNaming
ghosts-serve_desk-K-ListNaming g a = record { table = a.acks }

abbrev pub ghosts-serve_desk-K-LogNaming : goal.ghosts-serve_desk-K-LogNaming
ghosts-serve_desk-K-LogNaming g a = record { form = form_of g.D.Device.seen a.config.now a.log }
