-- What the index of a table tells of a pair of assets.
use Rattle.std.proofs.Common.{◌≡◌, ◌≢◌, ℕ, ◌+◌, ◌*◌, ◌<◌, ◌≤◌, Bool, true, false, not, ◌||◌, List, [], length, take, map, refl, subst, sym, ◌∙◌, ap, arith, lit<, get_or, Option, Some, None}
use Rattle.std.specs.Prelude.{slice_get, nat_lt, ◌==◌}
use Rattle.std.specs.Int.{abs_diff}
use Rattle.std.specs.List.{list_any}
use Rattle.std.proofs.lemmas.Bool.Decides.{nat_tests}
use Rattle.std.proofs.lemmas.Option.{get_or_from_slice_get}
use Rattle.ilp_assets.specs.declared.listed.Listed.{Listed}
use Rattle.ilp_assets.specs.declared.table.Placed.{Placed}
use Rattle.ilp_assets.specs.Assets.{PlainAsset, PlainPrice, PlainTable, is_asset, is_price_of, asset_at}
use Rattle.ilp_assets.specs.Faults.{most_scale_gap, is_among, fault_of, fault_of_assets, fault_of_prices, price_fault}
use Rattle.ilp_assets.specs.Quote.{price_of, scale_of}
use Rattle.ilp_assets.specs.Table.{IsIndexed, IsPrice, place_of_price, plain_listed, plain_placed, plain_table}
use Rattle.ilp_order.proofs.CheckLemmas.{first_of-None, when-None, first_along-at}
use Rattle.ilp_assets.proofs.Sameness.{is_price_of-Decides}
use Rattle.ilp_assets.proofs.Finding.{position_from-Some, position_from-None, seen_at, seen_within}

-- what a price without a fault is known to be
pub record IsSound (assets : List PlainAsset) (before : List PlainPrice) (price : PlainPrice) : Type 0 where
  pub from : not (is_among assets price.from) ≡ false
  pub to : not (is_among assets price.to) ≡ false
  pub whole : ((price.p == 0) || (price.q == 0)) ≡ false
  pub two : is_asset price.from price.to ≡ false
  pub fresh : list_any (is_price_of price.from price.to) before ≡ false
  pub near : nat_lt most_scale_gap (abs_diff price.from.scale price.to.scale) ≡ false

-- each check of such a price has passed
pub price_fault-None : (assets : List PlainAsset) (before : List PlainPrice) (price : PlainPrice) → price_fault assets before price ≡ None → IsSound assets before price
unfolding price_fault
price_fault-None assets before price none =
    let a = first_of-None _ _ none in
    let b = first_of-None _ _ a.1 in
    let c = first_of-None _ _ b.1 in
    let d = first_of-None _ _ c.1 in
    let e = first_of-None _ _ d.1 in
    let f = first_of-None _ _ e.1 in
    record { from = when-None _ _ a.0; to = when-None _ _ b.0; whole = when-None _ _ c.0; two = when-None _ _ d.0; fresh = when-None _ _ e.0; near = when-None _ _ f.0 }

-- a table without a fault has none in its assets and none in its prices
pub fault_of-None : (assets : List PlainAsset) (prices : List PlainPrice) → fault_of assets prices ≡ None → (fault_of_assets assets ≡ None) × (fault_of_prices assets prices ≡ None)
unfolding fault_of
fault_of-None assets prices none =
    let a = first_of-None _ _ none in
    let b = first_of-None _ _ a.1 in
    (a.0, b.0)

-- what a pair of different assets is known by, where its price stands at a place
pub record IsPricedAt (T : PlainTable) (x y k : ℕ) : Type 0 where
  pub price : PlainPrice
  pub priced : price_of T x y ≡ Some price
  pub at : slice_get T.prices k ≡ Some price
  pub whole : 0 < price.q
  pub near : abs_diff (scale_of T x) (scale_of T y) ≤ most_scale_gap

-- two equal numbers pass the test
is_same : (x y : ℕ) → x ≡ y → (x == y) ≡ true
is_same x y h = grind (arith, nat_tests)

-- two numbers that differ fail the test
pub differ : (x y : ℕ) → x ≢ y → (x == y) ≡ false
differ x y h = grind (arith, nat_tests)

-- where neither is 0, the second is not
not_zero : (p q : ℕ) → ((p == 0) || (q == 0)) ≡ false → 0 < q
not_zero p q h = grind (arith, nat_tests)

-- scales that are not too far apart
is_near : (s t : ℕ) → nat_lt most_scale_gap (abs_diff s t) ≡ false → abs_diff s t ≤ most_scale_gap
is_near s t h = grind (arith, nat_tests)

-- the place that is known has the price
pub priced_at : (T : PlainTable) → fault_of T.assets T.prices ≡ None → (x y k : ℕ) → x ≢ y → place_of_price T x y ≡ Some k → IsPricedAt T x y k
priced_at T sound x y k two h =
    let test : PlainPrice → Bool = is_price_of (asset_at T.assets x) (asset_at T.assets y) in
    let first = position_from-Some test 0 T.prices k h in
    let clean = first_along-at (price_fault T.assets) [] T.prices first.place first.element (fault_of-None T.assets T.prices sound).1 first.at in
    let known = price_fault-None T.assets (take first.place T.prices) first.element clean in
    let ends = (is_price_of-Decides (asset_at T.assets x) (asset_at T.assets y) first.element).0 first.passes in
    let counted : k ≡ first.place = omega (arith, first.counted) in
    let from_scale : scale_of T x ≡ first.element.from.scale = ap (λ (a : PlainAsset). a.scale) ends.0 in
    let to_scale : scale_of T y ≡ first.element.to.scale = ap (λ (a : PlainAsset). a.scale) ends.1 in
    record {
      price = first.element;
      priced = rw (differ x y two) first.found;
      at = ap (λ n. slice_get T.prices n) counted ∙ first.at;
      whole = not_zero first.element.p first.element.q known.whole;
      near = rw (from_scale, to_scale) (is_near first.element.from.scale first.element.to.scale known.near);
    }

-- where no place is known, there is no price
pub unpriced : (T : PlainTable) (x y : ℕ) → x ≢ y → place_of_price T x y ≡ None → price_of T x y ≡ None
unpriced T x y two h = rw (differ x y two) (position_from-None (is_price_of (asset_at T.assets x) (asset_at T.assets y)) 0 T.prices h)

-- what is read from the index is the place of the price
pub read_place : (T seen : PlainTable) (index : List (Option ℕ)) → IsIndexed T index → T ≡ seen → (x y count : ℕ) → x < length seen.assets → y < length seen.assets → count ≡ length T.assets → (found : Option ℕ) → found ≡ get_or index (x * count + y) found → found ≡ place_of_price seen x y
read_place T seen index known view x y count from to counted found read =
    let within : PlainTable → Type 0 = λ t. (x < length t.assets) × (y < length t.assets) in
    let ends : within T = subst within (sym view) (from, to) in
    let place : get_or index (x * length T.assets + y) found ≡ place_of_price T x y = get_or_from_slice_get index (x * length T.assets + y) (place_of_price T x y) found (known.places x y ends.0 ends.1) in
    read ∙ ap (λ n. get_or index (x * n + y) found) counted ∙ place ∙ ap (λ (t : PlainTable). place_of_price t x y) view

-- what stands at that place is the price
pub read_price : {Y : Type 0} (assets : List (Listed Y)) (prices : List Placed) (x y k : ℕ) → IsPricedAt (plain_table assets prices) x y k → (price : Placed) → price ≡ get_or prices k price → IsPrice (plain_table assets prices) x y price.p price.q
read_price assets prices x y k known price read =
    let same : plain_placed (map plain_listed assets) price ≡ known.price = seen_at (plain_placed (map plain_listed assets)) prices k price known.price known.at read in
    let denominator : price.q ≡ known.price.q = ap (λ (r : PlainPrice). r.q) same in
    record {
      price = known.price;
      priced = known.priced;
      numerator = ap (λ (r : PlainPrice). r.p) same;
      denominator = denominator;
      whole = omega (arith, known.whole);
      near = known.near;
    }

-- such a place is within the list of prices, and what stands there is the price
pub price_at_place : {Y : Type 0} (assets : List (Listed Y)) (prices : List Placed) (seen : PlainTable) → fault_of (map plain_listed assets) (map (plain_placed (map plain_listed assets)) prices) ≡ None → plain_table assets prices ≡ seen → (x y k : ℕ) → x ≢ y → place_of_price seen x y ≡ Some k → (k < length prices) × ((price : Placed) → price ≡ get_or prices k price → IsPrice seen x y price.p price.q)
price_at_place assets prices seen sound view x y k two place =
    let T = plain_table assets prices in
    let known = priced_at T sound x y k two (ap (λ (t : PlainTable). place_of_price t x y) view ∙ place) in
    let Priced : Placed → PlainTable → Type 0 = λ price t. IsPrice t x y price.p price.q in
    (seen_within (plain_placed T.assets) prices k known.price known.at, λ price read. subst (Priced price) view (read_price assets prices x y k known price read))

-- an asset in itself costs 1
pub same_asset : (T : PlainTable) (x y : ℕ) → x ≡ y → IsPrice T x y 1 1
same_asset T x y same = record {
  price = record { from = asset_at T.assets x; to = asset_at T.assets y; p = 1; q = 1 };
  priced = rw (is_same x y same) refl;
  numerator = refl;
  denominator = refl;
  whole = lit< tt;
  near = rw same (omega arith);
}
