use Rattle.std.proofs.Common.{◌≡◌, Some, subst, sym, ◌∙◌, ap}
use Rattle.std.specs.Prelude.{string_bytes, slice_get, option_map, unwrap_or}
use Rattle.ilp_assets.specs.Assets.{PlainTable, plain_asset, no_asset, asset_at}
use Rattle.ilp_accounts.specs.Configuration.{Configuration}
use Rattle.ilp_report.specs.Report.{asset_name}
use Rattle.ilp_report.specs.Columns.{IsShort}
use Rattle.ilp_report.proofs.AmountLemmas.{sums_are_narrow}
use Rattle.ilp_report.proofs.NameLemmas.{asset_name_is_short}
use Rattle.ilp_report.proofs.accounts.asset_books.Goals as goal

pub invariant_of-result : goal.invariant_of-result
invariant_of-result g c =
    let book = c.args.book.now in
    let place = c.args.place in
    let assets = book.config.table.assets in
    let table = c.assets.ensures.value ∙ ap (λ (C : Configuration). C.table) c.config.ensures.value in
    let found : slice_get assets place ≡ Some (plain_asset c.in-Some.asset) =
    ap (λ (T : PlainTable). slice_get T.assets place) (sym table) ∙ sym c.asset.ensures ∙ ap (option_map plain_asset) c.in-Some.is in
    let named : string_bytes c.in_ok-name_of.field-0 ≡ asset_name (asset_at assets place) =
    c.in_ok-name_of.ensures ∙ sym (ap (λ o. asset_name (unwrap_or o no_asset)) found) in
    record {
      short = subst IsShort (sym named) (asset_name_is_short book.config c.config.ensures.valid place c.requires);
      narrow = sums_are_narrow c.sums.result c.sums.ensures.within;
    }
