use Rattle.std.proofs.Common.{◌≡◌, Some, sym, ap, ◌∙◌, arith}
use Rattle.std.specs.Prelude.{slice_get}
use Rattle.std.proofs.lemmas.Option.{slice_get-get_or}
use Rattle.ilp_io.proofs.CountLemmas.{CountsUp-after}
use Rattle.ilp_report.specs.Report.{asset_lines}
use Rattle.ilp_io.proofs.WrittenLemmas.{at_err, wrote_next, stopped_at}
use Rattle.ilp_report.proofs.printing.put_assets.Goals as goal

pub returns-in_err-put_asset-clause-err : goal.returns-in_err-put_asset-clause-err
returns-in_err-put_asset-clause-err g c =
    let all = c.args.assets.now in
    let n = c.loop-asset.asset-index in
    let asset = c.asset-item.result in
    let stands : slice_get all n ≡ Some asset = slice_get-get_or all n asset (omega (arith, c.loop-asset-test.true)) ∙ ap Some (sym c.asset-item.is) in
    at_err _ _ (stopped_at asset_lines all n asset _ _ _ stands c.loop-asset.invariant.wrote c.in_err-put_asset.ensures.err)

pub loop-asset-preserved : goal.loop-asset-preserved
loop-asset-preserved g c =
    let all = c.args.assets.now in
    let n = c.loop-asset.asset-index in
    let asset = c.asset-item.result in
    let stands : slice_get all n ≡ Some asset = slice_get-get_or all n asset (omega (arith, c.loop-asset-test.true)) ∙ ap Some (sym c.asset-item.is) in
    record {
      wrote = wrote_next asset_lines all n asset _ _ _ stands c.loop-asset.invariant.wrote c.in_ok-put_asset.ensures.ok;
      failed = CountsUp-after _ _ _ 0 c.loop-asset.invariant.failed c.in_ok-put_asset.ensures.failed;
    }
