use Rattle.std.proofs.Common.{◌∷◌, [], ◌++◌, map, sym, ap, ◌∙◌, arith}
use Rattle.std.specs.List.{range_with_len}
use Rattle.std.proofs.lemmas.List.FromFn.{map-range_with_len_more}
use Rattle.ilp_report.specs.Report.{asset_books}
use Rattle.ilp_report.proofs.accounts.all_asset_books.Goals as goal

pub loop-asset-preserved : goal.loop-asset-preserved
loop-asset-preserved g c =
    let told = asset_books c.args.book.now in
    let n = c.loop-asset.asset in
    c.in_ok-push.ensures.items ∙ ap (λ xs. xs ++ c.in_ok-asset_books.field-0 ∷ []) c.loop-asset.invariant
    ∙ ap (λ x. map told (range_with_len 0 n) ++ x ∷ []) c.in_ok-asset_books.ensures ∙ sym (map-range_with_len_more told 0 n n (omega arith))
