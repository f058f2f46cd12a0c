use Rattle.ilp_http.proofs.PendingLemmas.{OnErr-of, OnErr-map, OnOk-map, Sends-then, Sends-stop, Stops-more}
use Rattle.ilp_http.proofs.writing.add_head.Goals as goal

pub returns-in_err-add_text-clause-err : goal.returns-in_err-add_text-clause-err
returns-in_err-add_text-clause-err g c = OnErr-of _ _ (Stops-more _ _ _ _ _ c.in_err-add_text.ensures.err)

pub returns-in_err-add_text-2-clause-err : goal.returns-in_err-add_text-2-clause-err
returns-in_err-add_text-2-clause-err g c = OnErr-of _ _ (Sends-stop _ _ _ _ _ _ _ c.in_ok-add_text.ensures.ok (Stops-more _ _ _ _ _ c.in_err-add_text-2.ensures.err))

pub returns-in_err-add_text-3-clause-err : goal.returns-in_err-add_text-3-clause-err
returns-in_err-add_text-3-clause-err g c = OnErr-of _ _ (Sends-stop _ _ _ _ _ _ _ c.in_ok-add_text.ensures.ok (Sends-stop _ _ _ _ _ _ _ c.in_ok-add_text-2.ensures.ok (Stops-more _ _ _ _ _ c.in_err-add_text-3.ensures.err)))

pub returns-in_err-add_text-4-clause-err : goal.returns-in_err-add_text-4-clause-err
returns-in_err-add_text-4-clause-err g c = OnErr-of _ _ (Sends-stop _ _ _ _ _ _ _ c.in_ok-add_text.ensures.ok (Sends-stop _ _ _ _ _ _ _ c.in_ok-add_text-2.ensures.ok (Sends-stop _ _ _ _ _ _ _ c.in_ok-add_text-3.ensures.ok (Stops-more _ _ _ _ _ c.in_err-add_text-4.ensures.err))))

pub returns-in_err-add_own-clause-err : goal.returns-in_err-add_own-clause-err
returns-in_err-add_own-clause-err g c = OnErr-of _ _ (Sends-stop _ _ _ _ _ _ _ c.in_ok-add_text.ensures.ok (Sends-stop _ _ _ _ _ _ _ c.in_ok-add_text-2.ensures.ok (Sends-stop _ _ _ _ _ _ _ c.in_ok-add_text-3.ensures.ok (Sends-stop _ _ _ _ _ _ _ c.in_ok-add_text-4.ensures.ok (Stops-more _ _ _ _ _ c.in_err-add_own.ensures.err)))))

pub returns-clause-ok : goal.returns-clause-ok
returns-clause-ok g c = OnOk-map _ _ _ (λ last. (Sends-then _ _ _ _ _ _ _ _ c.in_ok-add_text.ensures.ok (Sends-then _ _ _ _ _ _ _ _ c.in_ok-add_text-2.ensures.ok (Sends-then _ _ _ _ _ _ _ _ c.in_ok-add_text-3.ensures.ok (Sends-then _ _ _ _ _ _ _ _ c.in_ok-add_text-4.ensures.ok (Sends-then _ _ _ _ _ _ _ _ c.in_ok-add_own.ensures.ok last)))))) c.add.ensures.ok

pub returns-clause-err : goal.returns-clause-err
returns-clause-err g c = OnErr-map _ _ _ (λ last. (Sends-stop _ _ _ _ _ _ _ c.in_ok-add_text.ensures.ok (Sends-stop _ _ _ _ _ _ _ c.in_ok-add_text-2.ensures.ok (Sends-stop _ _ _ _ _ _ _ c.in_ok-add_text-3.ensures.ok (Sends-stop _ _ _ _ _ _ _ c.in_ok-add_text-4.ensures.ok (Sends-stop _ _ _ _ _ _ _ c.in_ok-add_own.ensures.ok last)))))) c.add.ensures.err
