use Rattle.std.proofs.Common.{ap, sym, ◌∙◌, refl}
use Rattle.std.specs.Prelude.{unwrap_or}
use Rattle.ilp_serve.proofs.Behind.{is_next}
use Rattle.ilp_serve.proofs.next_books.next_books.Goals as goal
use Rattle.ilp_serve.proofs.next_books.next_books.Goals.{in-Some, in-None}

-- The next book is by the configuration that was given, or by the one of the book that ended.
pub returns-in-Ok-clause-behind : goal.returns-in-Ok-clause-behind
returns-in-Ok-clause-behind c =
    let ended = c.args.ended in
    elim c.match-next.branch [
      | in-Some w ↦ (
        refl,
        is_next ended c.args.next w.in-Some.config w.next_of-begun.result c.in-Ok.next
            (sym (ap (λ asked. unwrap_or asked ended.config) w.in-Some.is)) (sym w.begun-is ∙ c.in-Ok.is) w.next_of-begun.ensures.may w.next_of-begun.ensures.next,
      )
      | in-None w ↦ (
        refl,
        is_next ended c.args.next w.config.result.now w.next_of-begun-in-None.result c.in-Ok.next
            (w.config.ensures.value ∙ sym (ap (λ asked. unwrap_or asked ended.config) w.in-None.is)) (sym w.begun-is ∙ c.in-Ok.is) w.next_of-begun-in-None.ensures.may w.next_of-begun-in-None.ensures.next,
      )
    ]
