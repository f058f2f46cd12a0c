use Rattle.std.specs.Prelude.{[]}
use Rattle.test_log.proofs.beside.mend_beside_anew.Given as goal

abbrev pub ghosts-open_gated-J-Ledger : goal.ghosts-open_gated-J-Ledger
ghosts-open_gated-J-Ledger g a = record { name = a.blanks.name; parts = a.blanks.parts }

abbrev pub ghosts-open_gated-J-Naming : goal.ghosts-open_gated-J-Naming
ghosts-open_gated-J-Naming g a = record { desk = record { config = a.config.now; workers = 1; period = a.parts.book.period; opening = a.parts.book.entries }; list = a.parts.list }

abbrev pub ghosts-open_gated-K-ListNaming : goal.ghosts-open_gated-K-ListNaming
ghosts-open_gated-K-ListNaming g a = record { table = a.log.acks }

abbrev pub ghosts-open_gated-K-LogNaming : goal.ghosts-open_gated-K-LogNaming
ghosts-open_gated-K-LogNaming g a = record { form = record { config = a.config.now; head = []; base = 0 } }
