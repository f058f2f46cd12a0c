use Rattle.std.specs.Prelude.{◌≡◌, IfOk, IfSome}
use Rattle.std.proofs.Common.{subst}
use Rattle.std.proofs.lemmas.Result.{IfOk-weaker}
use Rattle.ilp_book.specs.Book.{PlainBook}
use Rattle.ilp_serve.specs.NextBooks.{ComesBehind}
use Rattle.ilp_serve.proofs.Behind.{follows_as}
use Rattle.ilp_serve.proofs.journal_periods.JournalPeriods.follow.Goals as goal

-- The next one begins, or the one that ended goes on.
pub returns-in-Next-clause-follows : goal.returns-in-Next-clause-follows
returns-in-Next-clause-follows g c =
    let behind = subst (ComesBehind c.args.book c.args.next) c.in-Next.is c.in_ok-ended.ensures.behind in
    IfOk-weaker c.begin.result _ _ (λ f begins. follows_as f.change c.args.book c.args.next c.in-Next.ended c.in-Next.next f.period.book behind.0 behind.1 begins) c.begin.ensures.book

-- The book whose text is still to be kept is the one that ended.
pub returns-in-Next-clause-unkept : goal.returns-in-Next-clause-unkept
returns-in-Next-clause-unkept g c =
    let behind = subst (ComesBehind c.args.book c.args.next) c.in-Next.is c.in_ok-ended.ensures.behind in
    subst (λ (b : PlainBook). IfOk c.begin.result (λ f. IfSome f.unkept (λ (ended : PlainBook). ended ≡ b))) behind.0 c.begin.ensures.unkept
