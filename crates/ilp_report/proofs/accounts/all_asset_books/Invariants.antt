use Rattle.std.proofs.Common.{◌≡◌, map}
use Rattle.std.specs.List.{range_with_len}
use Rattle.ilp_report.specs.Report.{asset_books}
use Rattle.ilp_report.proofs.accounts.all_asset_books.Given as goal

-- those so far
abbrev pub invariant-loop-asset : goal.invariant-loop-asset
invariant-loop-asset g l = l.assets.items ≡ map (asset_books l.book) (range_with_len 0 l.asset)
