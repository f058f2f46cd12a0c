-- What the checks of a price come to, one after another.
use Rattle.std.proofs.Common.{◌≡◌, ℕ, ◌<◌, ◌≤◌, true, false, List, [], ◌∷◌, refl, sym, ◌∙◌, ap, arith, Option, Some, None, length, get_or, take, drop, map, ◌+◌, ◌++◌}
use Rattle.std.specs.Prelude.{nat_lt, is_some}
use Rattle.std.specs.Int.{abs_diff}
use Rattle.std.specs.List.{list_any}
use Rattle.std.proofs.lemmas.Bool.Decides.{nat_tests}
use Rattle.ilp_assets.specs.declared.fault.AssetFault.{AssetFault}
use Rattle.ilp_assets.specs.declared.fault.AssetFault.TheVariants.{DoublePrice, ScaleGap}
use Rattle.ilp_assets.specs.declared.asset.Price.{Price}
use Rattle.ilp_assets.specs.declared.table.Placed.{Placed}
use Rattle.ilp_order.specs.Checks.{first_of, when, first_along}
use Rattle.ilp_assets.specs.Assets.{PlainAsset, PlainPrice, PlainTable, is_price_of, asset_at, plain_price}
use Rattle.ilp_assets.specs.Faults.{most_scale_gap, price_fault}
use Rattle.ilp_assets.specs.Table.{IsNamed, IsNext, place_of_price}
use Rattle.ilp_order.proofs.CheckLemmas.{first_along-turn}
use Rattle.ilp_assets.proofs.Finding.{position_from-any}

-- the checks that are left of a price of two known assets without a 0
abbrev pub rest : PlainTable → PlainPrice → Option AssetFault
rest T price = first_of (
    when (list_any (is_price_of price.from price.to) T.prices) DoublePrice
    ∷ when (nat_lt most_scale_gap (abs_diff price.from.scale price.to.scale)) ScaleGap
    ∷ [])

is_some-false : {X : Type 0} (o : Option X) → is_some o ≡ false → o ≡ None
is_some-false None h = refl
is_some-false (Some x) h = cc

module _ (T : PlainTable) (price : PlainPrice) (placed : Placed) (named : IsNamed T price placed) where
  -- where the first checks pass, those that are left decide
  pub left_over : price_fault T.assets T.prices price ≡ rest T price
  unfolding price_fault
  left_over = rw (named.from_known, named.to_known, named.whole, named.two) refl

  -- the pair has a price where a place is known
  pub taken : is_some (place_of_price T placed.from placed.to) ≡ list_any (is_price_of price.from price.to) T.prices
  taken =
      position_from-any (is_price_of (asset_at T.assets placed.from) (asset_at T.assets placed.to)) 0 T.prices
      ∙ ap (λ a. list_any (is_price_of a (asset_at T.assets placed.to)) T.prices) (ap (λ (r : PlainPrice). r.from) named.is)
      ∙ ap (λ b. list_any (is_price_of price.from b) T.prices) (ap (λ (r : PlainPrice). r.to) named.is)

  -- a pair that has a price gets no other
  pub taken_pair : is_some (place_of_price T placed.from placed.to) ≡ true → price_fault T.assets T.prices price ≡ Some DoublePrice
  taken_pair h =
      let found : list_any (is_price_of price.from price.to) T.prices ≡ true = sym taken ∙ h in
      left_over ∙ rw found refl

  -- a pair that has no price, and whose scales are too far apart, is refused for that
  pub far_pair : is_some (place_of_price T placed.from placed.to) ≡ false → most_scale_gap < abs_diff price.from.scale price.to.scale → price_fault T.assets T.prices price ≡ Some ScaleGap
  far_pair h far =
      let found : list_any (is_price_of price.from price.to) T.prices ≡ false = sym taken ∙ h in
      let gap : nat_lt most_scale_gap (abs_diff price.from.scale price.to.scale) ≡ true = grind (arith, nat_tests) in
      left_over ∙ rw (found, gap) refl

  -- a pair that has no price, and whose scales are near, has no fault
  pub sound_pair : is_some (place_of_price T placed.from placed.to) ≡ false → abs_diff price.from.scale price.to.scale ≤ most_scale_gap → price_fault T.assets T.prices price ≡ None
  sound_pair h near =
      let found : list_any (is_price_of price.from price.to) T.prices ≡ false = sym taken ∙ h in
      let gap : nat_lt most_scale_gap (abs_diff price.from.scale price.to.scale) ≡ false = grind (arith, nat_tests) in
      left_over ∙ rw (found, gap) refl

  -- a price of such a pair can be the next of the table
  pub next_pair : is_some (place_of_price T placed.from placed.to) ≡ false → abs_diff price.from.scale price.to.scale ≤ most_scale_gap → IsNext T placed
  next_pair h near = record {
    from = named.from;
    to = named.to;
    fresh = is_some-false (place_of_price T placed.from placed.to) h;
    sound = ap (price_fault T.assets T.prices) named.is ∙ sound_pair h near;
  }

-- along the prices that are given, one that the table takes joins those before it, and the first fault of the rest stays
pub prices_turn : (given : List Price) (i : ℕ) (x : Price) → i < length given → (assets : List PlainAsset) (T : PlainTable) → T.assets ≡ assets → T.prices ≡ map plain_price (take i given) → price_fault T.assets T.prices (plain_price (get_or given i x)) ≡ None → (T.prices ++ plain_price (get_or given i x) ∷ [] ≡ map plain_price (take (i + 1) given)) × (first_along (price_fault assets) (map plain_price (take (i + 1) given)) (map plain_price (drop (i + 1) given)) ≡ first_along (price_fault assets) (map plain_price (take i given)) (map plain_price (drop i given)))
prices_turn given i x within assets T same_assets same_prices sound =
    let y : PlainPrice = plain_price (get_or given i x) in
    let here : price_fault assets (map plain_price (take i given)) y ≡ None = sym (ap (λ a. price_fault a T.prices y) same_assets ∙ ap (λ ps. price_fault assets ps y) same_prices) ∙ sound in
    let turn = first_along-turn (price_fault assets) plain_price given i x within here in
    (ap (λ ps. ps ++ y ∷ []) same_prices ∙ sym turn.0, turn.1)
