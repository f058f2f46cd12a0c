use Rattle.std.proofs.Common.{sym, subst}
use Rattle.ilp_book.specs.Book.{PlainBook}
use Rattle.ilp_running.specs.Serving.{IsClosed}
use Rattle.ilp_running.proofs.serving.serve_logged.Goals as goal

pub returns-clause-closed : goal.returns-clause-closed
returns-clause-closed g c =
    subst (λ (b : PlainBook). IsClosed g.J.Naming.desk b) (sym c.close-run.ensures.book) c.in_ok-book.ensures
