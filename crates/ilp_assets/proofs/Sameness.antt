-- The tests of assets and prices, and what they tell.
use Rattle.std.proofs.Common.{◌≡◌, ◌∙◌, ap}
use Rattle.std.specs.Bool.{Decides}
use Rattle.std.specs.Prelude.{bytes_eq, ◌==◌}
use Rattle.std.proofs.lemmas.Bool.Decides.{Decides-and, Decides-eqb, Decides-like}
use Rattle.std.proofs.lemmas.Slice.Eq.{bytes_eq-Decides}
use Rattle.ilp_assets.specs.Assets.{PlainAsset, PlainPrice, is_asset, is_price_of}

-- code and scale make an asset
pub same_parts : (a b : PlainAsset) → (a.code ≡ b.code) × (a.scale ≡ b.scale) → a ≡ b
same_parts a b h =
    let at_code : a ≡ record { code = b.code; scale = a.scale } = ap (λ c. record { code = c; scale = a.scale }) h.0 in
    at_code ∙ ap (λ s. record { code = b.code; scale = s }) h.1

-- the test of assets finds equal ones
pub is_asset-Decides : (a b : PlainAsset) → Decides (is_asset a b) (a ≡ b)
is_asset-Decides a b =
    Decides-like (is_asset a b) (same_parts a b) (λ e. (ap (λ (x : PlainAsset). x.code) e, ap (λ (x : PlainAsset). x.scale) e))
    (Decides-and (bytes_eq a.code b.code) (a.scale == b.scale) (bytes_eq-Decides a.code b.code) (Decides-eqb a.scale b.scale))

-- the test of prices finds those of the pair
pub is_price_of-Decides : (a b : PlainAsset) (price : PlainPrice) → Decides (is_price_of a b price) ((a ≡ price.from) × (b ≡ price.to))
is_price_of-Decides a b price =
    Decides-and (is_asset a price.from) (is_asset b price.to) (is_asset-Decides a price.from) (is_asset-Decides b price.to)
