use Rattle.std.proofs.Common.{◌≡◌, Some, sym, ap, ◌∙◌, arith}
use Rattle.std.specs.Prelude.{slice_get}
use Rattle.std.proofs.lemmas.Option.{slice_get-get_or}
use Rattle.ilp_io.proofs.CountLemmas.{CountsUp-after}
use Rattle.ilp_report.specs.Report.{open_line}
use Rattle.ilp_io.proofs.WrittenLemmas.{at_err, wrote_next, stopped_at}
use Rattle.ilp_report.proofs.printing.put_open_holds.Goals as goal

pub returns-in_err-put_open-clause-err : goal.returns-in_err-put_open-clause-err
returns-in_err-put_open-clause-err g c =
    let all = c.args.peers.now in
    let n = c.loop-peer.peer-index in
    let peer = c.peer-item.result in
    let stands : slice_get all n ≡ Some peer = slice_get-get_or all n peer (omega (arith, c.loop-peer-test.true)) ∙ ap Some (sym c.peer-item.is) in
    at_err _ _ (stopped_at open_line all n peer _ _ _ stands c.loop-peer.invariant.wrote c.in_err-put_open.ensures.err)

pub loop-peer-preserved : goal.loop-peer-preserved
loop-peer-preserved g c =
    let all = c.args.peers.now in
    let n = c.loop-peer.peer-index in
    let peer = c.peer-item.result in
    let stands : slice_get all n ≡ Some peer = slice_get-get_or all n peer (omega (arith, c.loop-peer-test.true)) ∙ ap Some (sym c.peer-item.is) in
    record {
      wrote = wrote_next open_line all n peer _ _ _ stands c.loop-peer.invariant.wrote c.in_ok-put_open.ensures.ok;
      failed = CountsUp-after _ _ _ 0 c.loop-peer.invariant.failed c.in_ok-put_open.ensures.failed;
    }
