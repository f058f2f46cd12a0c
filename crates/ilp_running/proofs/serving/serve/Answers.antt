use Rattle.ilp_running.proofs.serving.serve.Goals as goal
use Rattle.ilp_running.specs.Serving.{desk_of}
use Rattle.ilp_running.proofs.Printed.{refuses_printed}

-- The book was closed, and the report of it was not printed whole.
pub returns-in-Err-clause-refused : goal.returns-in-Err-clause-refused
returns-in-Err-clause-refused g c =
    refuses_printed (desk_of c.args.config.now c.args.book) c.in_ok-book.field-0.book _ _ c.in-Err.fault c.in_ok-book.ensures.closed c.in-Err.ensures
