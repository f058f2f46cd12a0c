use Rattle.std.proofs.Common.{ℕ, List, [], ◌<◌, length, All, sym, subst, ◌∙◌, ap}
use Rattle.ilp_assets.specs.Assets.{PlainTable}
use Rattle.ilp_tallies.specs.Tallies.{AreTallies}
use Rattle.ilp_rules.specs.Configured.{peer_assets}
use Rattle.ilp_rules.proofs.Known.{assets_within}
use Rattle.ilp_rules.proofs.TableSteps.{tables_new}
use Rattle.ilp_rules.proofs.tables.Tables.new.Goals as goal

-- each peer has one of the assets
pub new-requires : goal.new-requires
new-requires g c =
    let C = c.args.config.now in
    let Within : List ℕ → ℕ → Type 0 = λ assets n. All (λ asset. asset < n) assets in
    let count = c.asset_count-asset_count.ensures.count ∙ ap (λ (T : PlainTable). length T.assets) c.assets.ensures.value in
    subst (λ assets. Within assets c.asset_count-asset_count.result) (sym c.in_ok-assets.ensures)
    (subst (Within (peer_assets C)) (sym count) (assets_within C c.assets.ensures.valid))

-- the tables begin with nothing
pub returns : goal.returns
returns g c =
    let tallies = c.in_ok-new.field-0 in
    let tallied = subst (λ assets. AreTallies assets c.args.base [] tallies) c.in_ok-assets.ensures c.in_ok-new.ensures in
    tables_new (peer_assets c.args.config.now) c.args.base tallies c.in_ok-new-2.field-0 c.in_ok-new-3.field-0 tallied c.in_ok-new-2.ensures.empty c.in_ok-new-3.ensures
