use Rattle.std.proofs.Common.{◌≡◌, ◌++◌, take, drop, sym, ap, ◌∙◌, append_assoc, subst}
use Rattle.std.proofs.KnownBytes.{Appends-trans}
use Rattle.std.proofs.lemmas.List.{take-append-drop, take_rest}
use Rattle.std.specs.Prelude.{◌==◌, cond}
use Rattle.std.proofs.lemmas.Bool.{cond-false, ne_eqb}
use Rattle.ilp_io.specs.Counts.{CountsUp}
use Rattle.ilp_io.proofs.CountLemmas.{CountsUp-after}
use Rattle.ilp_io.proofs.writing.put_all.Goals as goal

pub loop-rest-preserved : goal.loop-rest-preserved
loop-rest-preserved g c =
    let before = c.loop-rest.invariant.written in
    let rest = c.loop-rest.rest.now in
    let n = c.in-Ok.count in
    let whole = before.1 ∙ ap (λ xs. before.0 ++ xs) (sym (take-append-drop n rest)) ∙ sym (append_assoc before.0 (take n rest) (drop n rest))
    ∙ ap (λ xs. (before.0 ++ take n rest) ++ xs) (sym (take_rest rest n)) in
    let some : cond (n == 0) 1 0 ≡ 0 = cond-false (n == 0) 1 0 (ne_eqb n 0 c.in-Ok.count-test.1) in
    record {
      written = (before.0 ++ take n rest, whole, Appends-trans _ _ _ _ _ before.2 c.in-Ok.ensures.octets);
      failed = CountsUp-after _ _ _ 0 c.loop-rest.invariant.failed (subst (CountsUp (g.W.Sink.failures c.loop-rest.sink) (g.W.Sink.failures c.put.new.self)) some c.in-Ok.ensures.failed);
    }
