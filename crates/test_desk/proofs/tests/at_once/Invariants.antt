use Rattle.test_desk.proofs.tests.at_once.Given as goal

abbrev pub ghosts-book_at_once-J-Ledger : goal.ghosts-book_at_once-J-Ledger
ghosts-book_at_once-J-Ledger g a = record { name = a.blanks.name; parts = a.blanks.parts }

abbrev pub ghosts-book_at_once-J-Naming : goal.ghosts-book_at_once-J-Naming
ghosts-book_at_once-J-Naming g a = record { desk = record { config = a.config.now; workers = a.workers; period = a.book.period; opening = a.book.entries }; list = a.list }
