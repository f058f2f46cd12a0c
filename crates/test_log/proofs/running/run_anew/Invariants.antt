use Rattle.std.specs.Prelude.{[]}
use Rattle.test_log.proofs.running.run_anew.Given as goal

abbrev pub ghosts-run_desk-J-Ledger : goal.ghosts-run_desk-J-Ledger
ghosts-run_desk-J-Ledger g a = record { name = a.blanks.name; parts = a.blanks.parts }

abbrev pub ghosts-run_desk-J-Naming : goal.ghosts-run_desk-J-Naming
ghosts-run_desk-J-Naming g a = record { desk = record { config = a.config.now; workers = 1; period = a.parts.book.period; opening = a.parts.book.entries }; list = a.parts.list }

abbrev pub ghosts-run_desk-K-ListNaming : goal.ghosts-run_desk-K-ListNaming
ghosts-run_desk-K-ListNaming g a = record { table = a.log.acks }

abbrev pub ghosts-run_desk-K-LogNaming : goal.ghosts-run_desk-K-LogNaming
ghosts-run_desk-K-LogNaming g a = record { form = record { config = a.config.now; head = []; base = 0 } }
