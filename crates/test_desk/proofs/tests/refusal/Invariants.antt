use Rattle.test_desk.proofs.tests.refusal.Given as goal

abbrev pub ghosts-refused-J-Ledger : goal.ghosts-refused-J-Ledger
ghosts-refused-J-Ledger g a = record { name = a.blanks.name; parts = a.blanks.parts }

abbrev pub ghosts-refused-J-Naming : goal.ghosts-refused-J-Naming
ghosts-refused-J-Naming g a = record { desk = record { config = a.config.now; workers = a.workers; period = a.book.period; opening = a.book.entries }; list = a.list }
