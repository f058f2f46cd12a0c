use Rattle.std.specs.Prelude.{[], None}
use Rattle.ilp_crash_laws.specs.Crash.{log_behind}
use Rattle.test_crash.proofs.tests.run_anew.Given as goal

abbrev pub ghosts-run-J-Ledger : goal.ghosts-run-J-Ledger
ghosts-run-J-Ledger g a = record { name = a.blanks.name; parts = a.blanks.parts }

abbrev pub ghosts-run-J-Naming : goal.ghosts-run-J-Naming
ghosts-run-J-Naming g a = record { desk = record { config = a.config.now; workers = 1; period = 0; opening = [] }; list = a.opening.list }

abbrev pub ghosts-run-K-ListNaming : goal.ghosts-run-K-ListNaming
ghosts-run-K-ListNaming g a = record { table = a.opening.acks }

abbrev pub ghosts-run-K-LogNaming : goal.ghosts-run-K-LogNaming
ghosts-run-K-LogNaming g a = record { form = log_behind a.config.now [] None }
