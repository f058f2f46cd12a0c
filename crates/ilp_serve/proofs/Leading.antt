-- Steps that lead from one period to the next.
use Rattle.std.proofs.Common.{List, [], ◌∷◌, ◌++◌, Option, refl, subst}
use Rattle.ilp_accounts.specs.Configuration.{Configuration}
use Rattle.ilp_book.specs.Book.{PlainBook}
use Rattle.ilp_running.specs.declared.fault.ServeFault.{ServeFault}
use Rattle.ilp_running.specs.declared.fault.ServeFault.TheVariants.{Unprinted, NotGathered, NextRefused, Write}
use Rattle.ilp_running.specs.Serving.{desk_of_book, IsClosed, IsOfNoDesk, IsWhyUnclosed}
use Rattle.ilp_serve.specs.Following.{Follows}
use Rattle.ilp_serve.specs.Periods.{Step, LeadsTo, ComesTo, EndsBy}

-- one step more leads to what begins behind it
leads_on : (first : PlainBook) (steps : List Step) (now ended : PlainBook) (asked : Option Configuration) (next : PlainBook)
    → LeadsTo first steps now → IsClosed (desk_of_book now) ended → Follows ended asked next
    → LeadsTo first (steps ++ record { ended = ended; asked = asked; next = next } ∷ []) next
leads_on first [] now ended asked next leads closed follows = (subst (λ (b : PlainBook). IsClosed (desk_of_book b) ended) leads closed, follows, refl)
leads_on first (step ∷ steps) now ended asked next leads closed follows = (leads.0, leads.1, leads_on step.next steps now ended asked next leads.2 closed follows)

-- from the first period that began the connector has come to this one
pub record Reaches (first now : PlainBook) : Type 0 where
  pub steps : List Step
  pub leads : LeadsTo first steps now

pub reaches_first : (first : PlainBook) → Reaches first first
reaches_first first = record { steps = []; leads = refl }

pub reaches_next : (first now ended next : PlainBook) → Reaches first now → IsClosed (desk_of_book now) ended → ((asked : Option Configuration) × Follows ended asked next) → Reaches first next
reaches_next first now ended next reached closed follows = record { steps = reached.steps ++ record { ended = ended; asked = follows.0; next = next } ∷ []; leads = leads_on first reached.steps now ended follows.0 next reached.leads closed follows.1 }

pub comes_to : (first now book : PlainBook) → Reaches first now → IsClosed (desk_of_book now) book → ComesTo first book
comes_to first now book reached closed = record { steps = reached.steps; last = now; leads = reached.leads; closed = closed }

pub ends_by : (first now : PlainBook) (fault : ServeFault) → Reaches first now → IsWhyUnclosed (desk_of_book now) fault → EndsBy first fault
ends_by first now fault reached why = record { steps = reached.steps; last = now; leads = reached.leads; why = why }

-- a fault that says nothing of a desk is a reason of each
of_each : (book : PlainBook) (fault : ServeFault) → IsOfNoDesk fault → IsWhyUnclosed (desk_of_book book) fault
of_each book Write none = absurd none
of_each book (NotGathered why) none = absurd none
of_each book (NextRefused why) none = tt
of_each book (Unprinted why) none = tt

-- a fault of no desk, behind this period
pub ends_behind : (first now : PlainBook) (fault : ServeFault) → Reaches first now → IsOfNoDesk fault → EndsBy first fault
ends_behind first now fault reached none = ends_by first now fault reached (of_each now fault none)
