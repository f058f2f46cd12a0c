-- The index of a table without prices, and that of a table with one price more.
use Rattle.std.proofs.Common.{◌≡◌, ◌≢◌, ℕ, suc, ◌+◌, ◌*◌, ◌<◌, ◌≤◌, Bool, true, false, List, [], ◌∷◌, ◌++◌, length, refl, subst, sym, ◌∙◌, ap, arith, inl, inr, Option, Some, None, map, replicate, min, ◌-◌, ◌^◌}
use Rattle.std.specs.Prelude.{slice_get, slice_set}
use Rattle.std.specs.List.{position_from}
use Rattle.std.proofs.lemmas.Option.{slice_get-get_or, slice_get_within, get_or_from_slice_get}
use Rattle.std.proofs.lemmas.List.{get_or-set_same, get_or-set_other, length-set, length-map, map-append, length-replicate, get_or-replicate}
use Rattle.std.proofs.lemmas.Bool.{cases_order, cases_lt}
use Rattle.std.proofs.Math.Nat.{mul-le-mul, mul-le-mul_right, suc-mul}
use Rattle.ilp_assets.specs.declared.listed.Listed.{Listed}
use Rattle.ilp_assets.specs.declared.table.Placed.{Placed}
use Rattle.ilp_assets.specs.Assets.{PlainAsset, PlainPrice, PlainTable, asset_at, is_price_of}
use Rattle.ilp_assets.specs.Faults.{fault_of, fault_of_assets, fault_of_prices, price_fault}
use Rattle.ilp_assets.specs.Table.{IsIndexed, IsNext, place_of_price, plain_listed, plain_placed, plain_table}
use Rattle.ilp_order.proofs.CheckLemmas.{first_of-rest, first_of-lone, first_along-snoc}
use Rattle.ilp_assets.proofs.Sameness.{is_price_of-Decides}
use Rattle.ilp_assets.proofs.Finding.{position_from-added, position_from-kept}
use Rattle.ilp_assets.proofs.Places.{one_place, same_pair}
use Rattle.ilp_assets.proofs.Rates.{fault_of-None}

-- no fault in the assets and none in the prices is none at all
pub none_at_all : (assets : List PlainAsset) (prices : List PlainPrice) → fault_of_assets assets ≡ None → fault_of_prices assets prices ≡ None → fault_of assets prices ≡ None
unfolding fault_of
none_at_all assets prices a b = first_of-rest (fault_of_assets assets) (fault_of_prices assets prices ∷ []) a ∙ first_of-lone (fault_of_prices assets prices) ∙ b

-- what is repeated stands at each place
repeated : {X : Type 0} (n k : ℕ) (x : X) → k < n → slice_get (replicate n x) k ≡ Some x
repeated n k x h =
    let within : k < length (replicate n x) = omega (arith, length-replicate n x) in
    slice_get-get_or (replicate n x) k x within ∙ ap Some (get_or-replicate n k x x h)

-- each pair has its place in the index
index-within : (n x y : ℕ) → x < n → y < n → x * n + y < n * n
index-within n x y row column =
    let rows : suc x * n ≤ n * n = mul-le-mul_right n row in
    omega (arith, suc-mul x n, rows)

-- a table without prices is indexed by an index without places
pub unpriced_indexed : (T : PlainTable) (index : List (Option ℕ)) → fault_of_assets T.assets ≡ None → T.prices ≡ [] → length T.assets < 2 ^ 32 → index ≡ replicate (length T.assets * length T.assets) None → IsIndexed T index
unpriced_indexed T index sound empty few made = record {
  sound = none_at_all T.assets T.prices sound (ap (fault_of_prices T.assets) empty);
  few = few;
  square = ap length made ∙ length-replicate (length T.assets * length T.assets) None;
  places = λ x y from to.
      ap (λ xs. slice_get xs (x * length T.assets + y)) made
      ∙ repeated (length T.assets * length T.assets) (x * length T.assets + y) None (index-within (length T.assets) x y from to)
      ∙ ap (λ ps. Some (position_from (is_price_of (asset_at T.assets x) (asset_at T.assets y)) 0 ps)) (sym empty);
}

-- a square that 63 bits hold is that of a number of 32 bits
pub small_square : (n m : ℕ) → m ≡ min (n * n) (2 ^ 64 - 1) → m < 2 ^ 63 → (n < 2 ^ 32) × (m ≡ n * n)
small_square n m e small = elim (cases_lt n (2 ^ 32)) [
  | inl below ↦ (below, omega arith)
  | inr above ↦ absurd (omega (arith, mul-le-mul {n₁ = 2 ^ 32} {m₁ = 2 ^ 32} {n₂ = n} {m₂ = n} above above))
]

-- a table with one price more
abbrev pub grown : PlainTable → Placed → PlainTable
grown T price = record { assets = T.assets; prices = T.prices ++ plain_placed T.assets price ∷ [] }

module _ (T : PlainTable) (index : List (Option ℕ)) (known : IsIndexed T index) (price : Placed) (next : IsNext T price) where
  -- the index of the new price's pair
  abbrev pub pair : ℕ
  pair = price.from * length T.assets + price.to

  -- whatever stood at the pair has been found there
  pair-within : pair < length index
  pair-within = slice_get_within index pair (place_of_price T price.from price.to) (known.places price.from price.to next.from next.to)

  -- the price of any other pair keeps its place
  other_pair : (x y : ℕ) → x < length T.assets → y < length T.assets → x * length T.assets + y ≢ pair → place_of_price (grown T price) x y ≡ place_of_price T x y
  other_pair x y from to other =
      let test : PlainPrice → Bool = is_price_of (asset_at T.assets x) (asset_at T.assets y) in
      let new : PlainPrice = plain_placed T.assets price in
      position_from-kept test 0 T.prices new (not_found (test new) refl)
    where
      distinct : fault_of_assets T.assets ≡ None
      distinct = (fault_of-None T.assets T.prices known.sound).0

      not_found : (b : Bool) → is_price_of (asset_at T.assets x) (asset_at T.assets y) (plain_placed T.assets price) ≡ b → is_price_of (asset_at T.assets x) (asset_at T.assets y) (plain_placed T.assets price) ≡ false
      not_found false e = e
      not_found true e =
          let ends = (is_price_of-Decides (asset_at T.assets x) (asset_at T.assets y) (plain_placed T.assets price)).0 e in
          let row : x ≡ price.from = one_place T.assets distinct x price.from from next.from ends.0 in
          let column : y ≡ price.to = one_place T.assets distinct y price.to to next.to ends.1 in
          absurd (other (ap (λ n. n * length T.assets + y) row ∙ ap (λ n. price.from * length T.assets + n) column))

  -- the new price is the first of its pair
  this_pair : place_of_price (grown T price) price.from price.to ≡ Some (length T.prices)
  this_pair =
      let a : PlainAsset = asset_at T.assets price.from in
      let b : PlainAsset = asset_at T.assets price.to in
      let counted : 0 + length T.prices ≡ length T.prices = omega arith in
      position_from-added (is_price_of a b) 0 T.prices (plain_placed T.assets price) next.fresh ((is_price_of-Decides a b (plain_placed T.assets price)).1 (refl, refl)) ∙ ap Some counted

  abbrev places_of : ℕ → ℕ → Type 0
  places_of x y = slice_get (slice_set index pair (Some (length T.prices))) (x * length T.assets + y) ≡ Some (place_of_price (grown T price) x y)

  abbrev new : List (Option ℕ)
  new = slice_set index pair (Some (length T.prices))

  -- no place of the index is lost
  new-within : (k : ℕ) → k < length index → k < length new
  new-within k h = omega (arith, length-set index pair (Some (length T.prices)))

  -- the index with the new price tells that price's place
  here : (x y : ℕ) → x < length T.assets → y < length T.assets → x * length T.assets + y ≡ pair → places_of x y
  here x y from to same =
      let at_pair : slice_get new pair ≡ Some (Some (length T.prices)) = slice_get-get_or new pair None (new-within pair pair-within) ∙ ap Some (get_or-set_same index pair (Some (length T.prices)) None pair-within) in
      let ends = same_pair (length T.assets) x y price.from price.to to next.to same in
      ap (slice_get new) same ∙ at_pair ∙ ap Some (sym this_pair ∙ ap (λ n. place_of_price (grown T price) n price.to) (sym ends.0) ∙ ap (λ n. place_of_price (grown T price) x n) (sym ends.1))

  -- the index with the new price tells the place of each other pair's price as before
  there : (x y : ℕ) → x < length T.assets → y < length T.assets → x * length T.assets + y ≢ pair → places_of x y
  there x y from to other =
      let k : ℕ = x * length T.assets + y in
      let old : slice_get index k ≡ Some (place_of_price T x y) = known.places x y from to in
      let within : k < length index = slice_get_within index k (place_of_price T x y) old in
      slice_get-get_or new k None (new-within k within)
      ∙ ap Some (get_or-set_other index pair k (Some (length T.prices)) None other ∙ get_or_from_slice_get index k (place_of_price T x y) None old ∙ sym (other_pair x y from to other))

  grown_places : (x y : ℕ) → x < length T.assets → y < length T.assets → places_of x y
  grown_places x y from to = elim (cases_order (x * length T.assets + y) pair) [
    | inl same ↦ here x y from to same
    | inr differs ↦ elim differs [
      | inl below ↦ there x y from to (λ same. omega (arith, same))
      | inr above ↦ there x y from to (λ same. omega (arith, same))
    ]
  ]

  -- the table with one price more is indexed too
  pub grown_indexed : IsIndexed (grown T price) (slice_set index pair (Some (length T.prices)))
  grown_indexed = record {
    sound = none_at_all T.assets (T.prices ++ plain_placed T.assets price ∷ []) (fault_of-None T.assets T.prices known.sound).0 (first_along-snoc (price_fault T.assets) [] T.prices (plain_placed T.assets price) (fault_of-None T.assets T.prices known.sound).1 next.sound);
    few = known.few;
    square = length-set index pair (Some (length T.prices)) ∙ known.square;
    places = grown_places;
  }

-- a table in memory to which a price is appended stays indexed
pub appended_indexed : {Y : Type 0} (assets : List (Listed Y)) (prices : List Placed) (index : List (Option ℕ)) → IsIndexed (plain_table assets prices) index → (seen : PlainTable) → plain_table assets prices ≡ seen → (price : Placed) → IsNext seen price → (count place : ℕ) → count ≡ length (map plain_listed assets) → place ≡ length prices → (after : List Placed) → after ≡ prices ++ price ∷ [] → IsIndexed (plain_table assets after) (slice_set index (price.from * count + price.to) (Some place))
appended_indexed assets prices index known seen view price next count place counted last after appended =
    let T : PlainTable = plain_table assets prices in
    let is_next : IsNext T price = subst (λ (t : PlainTable). IsNext t price) (sym view) next in
    let listed : T.prices ++ plain_placed T.assets price ∷ [] ≡ map (plain_placed T.assets) after = sym (map-append (plain_placed T.assets) prices (price ∷ [])) ∙ ap (map (plain_placed T.assets)) (sym appended) in
    let end : length T.prices ≡ place = length-map prices (plain_placed T.assets) ∙ sym last in
    let indexed : IsIndexed (record { assets = T.assets; prices = map (plain_placed T.assets) after }) (slice_set index (price.from * length T.assets + price.to) (Some (length T.prices))) = subst (λ (ps : List PlainPrice). IsIndexed (record { assets = T.assets; prices = ps }) (slice_set index (price.from * length T.assets + price.to) (Some (length T.prices)))) listed (grown_indexed T index known price is_next) in
    let counts : IsIndexed (plain_table assets after) (slice_set index (price.from * count + price.to) (Some (length T.prices))) = subst (λ (n : ℕ). IsIndexed (plain_table assets after) (slice_set index (price.from * n + price.to) (Some (length T.prices)))) (sym counted) indexed in
    subst (λ (n : ℕ). IsIndexed (plain_table assets after) (slice_set index (price.from * count + price.to) (Some n))) end counts

-- tables of the same assets and prices are one
pub same_table : {Y : Type 0} (assets assets' : List (Listed Y)) (prices prices' : List Placed) → map plain_listed assets' ≡ map plain_listed assets → prices' ≡ prices → plain_table assets' prices' ≡ plain_table assets prices
same_table assets assets' prices prices' listed placed =
    ap (λ ps. plain_table assets' ps) placed ∙ ap (λ (xs : List PlainAsset). record { assets = xs; prices = map (plain_placed xs) prices }) listed

-- what indexes a table indexes its copy
pub copied_indexed : (T copy : PlainTable) (index after : List (Option ℕ)) → copy ≡ T → after ≡ index → IsIndexed T index → IsIndexed copy after
copied_indexed T copy index after same indexes known =
    subst (λ (t : PlainTable). IsIndexed t after) (sym same) (subst (λ (xs : List (Option ℕ)). IsIndexed T xs) (sym indexes) known)
