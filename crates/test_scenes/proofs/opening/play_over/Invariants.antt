use Rattle.test_scenes.proofs.opening.play_over.Given as goal

abbrev pub ghosts-play_on-J-Ledger : goal.ghosts-play_on-J-Ledger
ghosts-play_on-J-Ledger g a = record { name = a.blanks.name; parts = a.blanks.parts }

abbrev pub ghosts-play_on-J-Naming : goal.ghosts-play_on-J-Naming
ghosts-play_on-J-Naming g a = record { desk = record { config = a.config.now; workers = a.workers; period = a.book.period; opening = a.book.entries }; list = a.list }
