use Rattle.std.specs.Prelude.{[]}
use Rattle.test_log.proofs.threads.logged_anew.Given as goal

abbrev pub ghosts-logged-J-Ledger : goal.ghosts-logged-J-Ledger
ghosts-logged-J-Ledger g a = record { name = a.blanks.name; parts = a.blanks.parts }

abbrev pub ghosts-logged-J-Naming : goal.ghosts-logged-J-Naming
ghosts-logged-J-Naming g a = record { desk = record { config = a.config.now; workers = 1; period = a.parts.book.period; opening = a.parts.book.entries }; list = a.parts.list }

abbrev pub ghosts-logged-K-ListNaming : goal.ghosts-logged-K-ListNaming
ghosts-logged-K-ListNaming g a = record { table = a.log.acks }

abbrev pub ghosts-logged-K-LogNaming : goal.ghosts-logged-K-LogNaming
ghosts-logged-K-LogNaming g a = record { form = record { config = a.config.now; head = []; base = 0 } }
