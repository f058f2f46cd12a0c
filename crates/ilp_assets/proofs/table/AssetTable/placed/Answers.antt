use Rattle.std.proofs.Common.{◌≡◌, ◌∙◌, ◌≤◌, ◌<◌, ap, sym, arith, true, false}
use Rattle.std.specs.Prelude.{is_some}
use Rattle.std.specs.Int.{abs_diff}
use Rattle.ilp_assets.specs.Assets.{plain_price}
use Rattle.ilp_assets.specs.Faults.{most_scale_gap}
use Rattle.ilp_assets.specs.Table.{place_of_price}
use Rattle.ilp_assets.proofs.Verdicts.{taken_pair, far_pair, next_pair}
use Rattle.ilp_assets.proofs.table.AssetTable.placed.Goals as goal

pub returns-then-is_some-clause-err : goal.returns-then-is_some-clause-err
returns-then-is_some-clause-err g c =
    let taken : is_some (place_of_price c.args.self.now c.in_ok-named.named.from c.in_ok-named.named.to) ≡ true = sym (ap is_some c.place_of_price.ensures) ∙ sym c.is_some.ensures ∙ c.if-is_some.true in
    taken_pair c.args.self.now (plain_price c.args.price) c.in_ok-named.named c.in_ok-named.ensures.named taken

pub returns-then-abs_diff-gt-MAX_SCALE_GAP-clause-err : goal.returns-then-abs_diff-gt-MAX_SCALE_GAP-clause-err
returns-then-abs_diff-gt-MAX_SCALE_GAP-clause-err g c =
    let free : is_some (place_of_price c.args.self.now c.in_ok-named.named.from c.in_ok-named.named.to) ≡ false = sym (ap is_some c.place_of_price.ensures) ∙ sym c.is_some.ensures ∙ c.if-is_some.false in
    let far : most_scale_gap < abs_diff c.args.price.from.scale c.args.price.to.scale = omega arith in
    far_pair c.args.self.now (plain_price c.args.price) c.in_ok-named.named c.in_ok-named.ensures.named free far

pub returns-clause-next : goal.returns-clause-next
returns-clause-next g c =
    let free : is_some (place_of_price c.args.self.now c.in_ok-named.named.from c.in_ok-named.named.to) ≡ false = sym (ap is_some c.place_of_price.ensures) ∙ sym c.is_some.ensures ∙ c.if-is_some.false in
    let near : abs_diff c.args.price.from.scale c.args.price.to.scale ≤ most_scale_gap = omega arith in
    next_pair c.args.self.now (plain_price c.args.price) c.in_ok-named.named c.in_ok-named.ensures.named free near
