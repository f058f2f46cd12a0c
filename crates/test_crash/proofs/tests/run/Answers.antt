use Rattle.std.proofs.Common.{◌≡◌, ℕ, [], refl, subst, codes}
use Rattle.std.specs.Fmt.{digits}
use Rattle.ilp_accounts.specs.Configuration.{Configuration}
use Rattle.ilp_journal.specs.Journal.{Entries}
use Rattle.ilp_journal_text.specs.Text.{journal_text}
use Rattle.test_crash.proofs.tests.run.Goals as goal

-- the text of a first period in which nothing was booked
saved_none : (C : Configuration) (period : ℕ) (opening : Entries) → 0 ≡ period → [] ≡ opening → codes "ilp-journal 1\nend 0\n" ≡ journal_text C period opening
unfolding digits
saved_none C period opening first nothing =
    subst (λ (p : ℕ). codes "ilp-journal 1\nend 0\n" ≡ journal_text C p opening) first
    (subst (λ (o : Entries). codes "ilp-journal 1\nend 0\n" ≡ journal_text C 0 o) nothing refl)

pub find_whole-requires-clause-saved : goal.find_whole-requires-clause-saved
find_whole-requires-clause-saved g c =
    saved_none g.J.Naming.desk.config g.J.Naming.desk.period g.J.Naming.desk.opening c.requires.period.0 c.requires.entries.0

pub find_whole-requires-2-clause-saved : goal.find_whole-requires-2-clause-saved
find_whole-requires-2-clause-saved g c =
    saved_none g.J.Naming.desk.config g.J.Naming.desk.period g.J.Naming.desk.opening c.requires.period.0 c.requires.entries.0
