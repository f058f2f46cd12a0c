-- What a connector comes to over its periods.
use Rattle.std.specs.Prelude.{◌≡◌, List, [], ◌∷◌, Option}
use Rattle.ilp_accounts.specs.Configuration.{Configuration}
use Rattle.ilp_book.specs.Book.{PlainBook}
use Rattle.ilp_running.specs.declared.fault.ServeFault.{ServeFault}
use Rattle.ilp_running.specs.Serving.{desk_of_book, IsClosed, IsWhyUnclosed}
use Rattle.ilp_serve.specs.Following.{Follows}

-- with what a period was closed, which configuration was asked for, if one was, and with what the next one began
pub record Step : Type 0 where
  pub ended : PlainBook
  pub asked : Option Configuration
  pub next : PlainBook

-- From the beginning of one period these steps lead to the beginning of another: the desk of each was closed, and the book of the next
-- one follows the one that it came to.
abbrev pub LeadsTo : PlainBook → List Step → PlainBook → Type 0
LeadsTo first [] now = now ≡ first
LeadsTo first (step ∷ later) now = IsClosed (desk_of_book first) step.ended × Follows step.ended step.asked step.next × LeadsTo step.next later now

-- the last of the periods that began with the first one was closed with this book
pub record ComesTo (first : PlainBook) (book : PlainBook) : Type 0 where
  pub steps : List Step
  pub last : PlainBook
  pub leads : LeadsTo first steps last
  pub closed : IsClosed (desk_of_book last) book

-- the last of them came to nothing, for this reason
pub record EndsBy (first : PlainBook) (fault : ServeFault) : Type 0 where
  pub steps : List Step
  pub last : PlainBook
  pub leads : LeadsTo first steps last
  pub why : IsWhyUnclosed (desk_of_book last) fault
