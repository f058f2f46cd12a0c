use Rattle.std.proofs.Common.{◌<◌, ◌∙◌, sym, arith, length}
use Rattle.std.proofs.lemmas.Grind.{common_steps}
use Rattle.ilp_assets.proofs.Rates.{unpriced, price_at_place}
use Rattle.ilp_assets.proofs.table.AssetTable.price.Goals as goal

pub returns-in_default-clause-none : goal.returns-in_default-clause-none
returns-in_default-clause-none g c = unpriced c.args.self.now c.args.from c.args.to c.requires.two (sym c.place_of_price.ensures ∙ c.in_default.is)

pub index-requires : goal.index-requires
index-requires g c =
    let known = price_at_place c.self.inside.assets.items c.self.inside.prices.items c.args.self.now c.self.invariant.sound c.self.view_is c.args.from c.args.to c.in-Some.place c.requires.two (sym c.place_of_price.ensures ∙ c.in-Some.is) in
    let within : c.in-Some.place < length c.self.inside.prices.items = known.0 in
    grind (arith, common_steps)

pub returns-clause-priced : goal.returns-clause-priced
returns-clause-priced g c =
    let known = price_at_place c.self.inside.assets.items c.self.inside.prices.items c.args.self.now c.self.invariant.sound c.self.view_is c.args.from c.args.to c.in-Some.place c.requires.two (sym c.place_of_price.ensures ∙ c.in-Some.is) in
    known.1 c.index.result.now c.index.ensures
