use Rattle.std.proofs.Common.{ap, ◌∙◌}
use Rattle.ilp_book.specs.Book.{PlainBook}
use Rattle.ilp_journal.specs.BroughtForward.{earlier_key_at}
use Rattle.ilp_desk.proofs.Heads.{same_earlier}
use Rattle.ilp_desk.proofs.locked.LockedBook.earlier_key.Goals as goal

pub returns : goal.returns
returns g c =
    c.earlier_key_in.ensures ∙ ap (λ (b : PlainBook). earlier_key_at b.entries c.args.number) c.book.ensures.value
    ∙ same_earlier g.J.Naming.desk _ c.args.number c.book.ensures.of_desk
