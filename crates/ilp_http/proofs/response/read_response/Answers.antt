use Rattle.std.proofs.Common.{◌≤◌, length, take, sym, ap, ◌∙◌, subst, arith}
use Rattle.std.specs.Prelude.{IfSome}
use Rattle.std.proofs.lemmas.List.{take-take, take-append-le}
use Rattle.std.proofs.lemmas.Result.{err_from_is_err_and}
use Rattle.ilp_http.specs.Placed.{IsPlacedAt}
use Rattle.ilp_http.proofs.response.read_response.Goals as goal

pub returns-in_err-filled-clause-timely : goal.returns-in_err-filled-clause-timely
returns-in_err-filled-clause-timely g c =
    let p = err_from_is_err_and c.from_residual.result c.from_residual.ensures.1 in
    rw (p.1, p.2) (λ other. c.in_err-filled.ensures.refused_in_time (λ same. other (cc)))

pub returns-clause-answer : goal.returns-clause-answer
returns-clause-answer g c =
    let filled = c.in_ok-filled.filled in
    let in_buffer : filled ≤ c.args.buffer.now.octets.len = omega (arith, c.in_ok-filled.ensures.filled) in
    let in_octets : filled ≤ length c.fill_response.new.octets = omega (arith, c.in_ok-filled.ensures.filled) in
    let same = ap (take filled) c.deref.ensures.value ∙ take-take filled c.args.buffer.now.octets.len _ in_buffer ∙ take-append-le filled c.fill_response.new.octets _ in_octets in
    subst (λ xs. IfSome (g.S.Source.remaining c.args.source.now) (λ input. IsPlacedAt input xs c.in_ok-filled.place)) (sym same) c.in_ok-filled.ensures.whole
