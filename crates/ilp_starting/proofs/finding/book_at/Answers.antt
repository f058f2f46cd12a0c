use Rattle.std.proofs.Common.{List, ℕ, IfOk, Option, Result, Ok, Err}
use Rattle.ilp_accounts.specs.Configuration.{Configuration}
use Rattle.ilp_starting.specs.Finding.{BeginsOfSome, BeginsOnce}
use Rattle.ilp_starting.specs.Sources.{IsSource}
use Rattle.ilp_starting.specs.declared.carrying.Carried.{Carried}
use Rattle.ilp_starting.specs.declared.refused.Refused.{Refused}
use Rattle.ilp_starting.proofs.finding.book_at.Goals as goal

-- what is found is some text and some log
of_some : (C : Configuration) (text log : Option (List ℕ)) (r : Result Carried Refused)
    → IfOk r (λ c. BeginsOnce C text log c.book) → IfOk r (λ c. IsSource text log c.source) → IfOk r (λ c. BeginsOfSome C c.book c.source)
of_some C text log (Ok c) begins source = (text, log, begins, source)
of_some C text log (Err r) begins source = begins

pub returns-clause-begins : goal.returns-clause-begins
returns-clause-begins g c = of_some _ _ _ c.last_found.result c.last_found.ensures.begins c.last_found.ensures.source
