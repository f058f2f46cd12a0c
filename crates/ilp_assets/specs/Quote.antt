-- What an amount becomes on its way from one asset to another, in units of each asset at its scale.
use Rattle.std.specs.Prelude.{ℕ, ◌+◌, ◌-◌, ◌*◌, ◌/◌, ◌^◌, Option, Some, Result, Ok, nat_lt, ◌==◌, ◌&&◌, find, if◌then◌else◌}
use Rattle.ilp_order.specs.Refusals.{◌>>=◌, refuse_if, found_or}
use Rattle.ilp_assets.specs.declared.quote.Quote.{Quote}
use Rattle.ilp_assets.specs.declared.quote.QuoteFault.{QuoteFault}
use Rattle.ilp_assets.specs.declared.quote.QuoteFault.TheVariants.{NoPrice, OutTooLarge, RoundsToNothing}
use Rattle.ilp_assets.specs.Assets.{PlainPrice, PlainTable, asset_at, is_price_of}

-- the greatest amount that a packet can carry
abbrev pub most : ℕ
most = 18446744073709551615

-- the greatest whole number at or below n / d
abbrev pub floor : ℕ → ℕ → ℕ
floor n d = n / d

-- the least whole number at or above n / d
abbrev pub ceiling : ℕ → ℕ → ℕ
ceiling n d = (n + (d - 1)) / d

-- the price of the asset x in the asset y; an asset in itself costs 1
abbrev pub price_of : PlainTable → ℕ → ℕ → Option PlainPrice
price_of T x y =
    let a = asset_at T.assets x in
    let b = asset_at T.assets y in
    if x == y then Some (record { from = a; to = b; p = 1; q = 1 }) else find (is_price_of a b) T.prices

-- the scale of the asset x
abbrev pub scale_of : PlainTable → ℕ → ℕ
scale_of T x = (asset_at T.assets x).scale

-- a fee is told in millionths of an amount
abbrev pub million : ℕ
million = 1000000

-- the fee of an amount at so many millionths, rounded up
abbrev pub fee_of : ℕ → ℕ → ℕ
fee_of ppm amount = ceiling (amount * ppm) million

-- an amount at scale s, at a price of p / q, as an amount at scale t, rounded down
abbrev pub converted : ℕ → ℕ → ℕ → ℕ → ℕ → ℕ
converted p q s t net = floor (net * p * 10 ^ t) (q * 10 ^ s)

-- an amount of the asset x in the asset y, where the sender pays ppm millionths of it
unfoldable pub quote : PlainTable → ℕ → ℕ → ℕ → ℕ → Result Quote QuoteFault
quote T x y ppm amount = do
  price ← found_or (price_of T x y) NoPrice
  let fee = fee_of ppm amount
  let net = amount - fee
  let out = converted price.p price.q (scale_of T x) (scale_of T y) net
  _ ← refuse_if (nat_lt most out) OutTooLarge
  _ ← refuse_if (nat_lt 0 amount && (out == 0)) RoundsToNothing
  Ok (record { fee = fee; net = net; out = out })
