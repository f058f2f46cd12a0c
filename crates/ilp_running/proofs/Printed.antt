-- A desk that was closed, and the report of whose book was not printed whole.
use Rattle.std.specs.Prelude.{ℕ, List, Option, Err, refl}
use Rattle.ilp_book.specs.Book.{PlainBook}
use Rattle.ilp_desk.specs.Desk.{PlainDesk}
use Rattle.ilp_running.specs.declared.fault.ServeFault.{ServeFault}
use Rattle.ilp_running.specs.declared.fault.ServeFault.TheVariants.{Unprinted, NotGathered, NextRefused, Write}
use Rattle.ilp_running.specs.Serving.{IsClosed, IsWhyUnclosed, Prints, Refuses}

pub refuses_printed : (desk : PlainDesk) (book : PlainBook) (old new : Option (List ℕ)) (fault : ServeFault) → IsClosed desk book → Prints book old new (Err fault) → Refuses desk old new fault
refuses_printed desk book old new Write closed printed = (book, closed, printed)
refuses_printed desk book old new (NotGathered why) closed printed = absurd printed
refuses_printed desk book old new (NextRefused why) closed printed = absurd printed
refuses_printed desk book old new (Unprinted why) closed printed = printed

pub refuses_unprinted : (desk : PlainDesk) (old : Option (List ℕ)) (fault : ServeFault) → IsWhyUnclosed desk fault → Refuses desk old old fault
refuses_unprinted desk old Write closed = absurd closed
refuses_unprinted desk old (NotGathered why) closed = (closed, refl)
refuses_unprinted desk old (NextRefused why) closed = refl
refuses_unprinted desk old (Unprinted why) closed = refl
