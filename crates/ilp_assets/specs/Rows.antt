-- Worked quotes and faults.
use Rattle.std.specs.Prelude.{◌≡◌, ℕ, [], ◌∷◌, Some, None, Result, Ok, Err, codes}
use Rattle.ilp_assets.specs.declared.fault.AssetFault.TheVariants.{DoubleAsset, NoSuchAsset, ZeroPrice, DoublePrice, ScaleGap}
use Rattle.ilp_assets.specs.declared.quote.Quote.{Quote}
use Rattle.ilp_assets.specs.declared.quote.QuoteFault.{QuoteFault}
use Rattle.ilp_assets.specs.declared.quote.QuoteFault.TheVariants.{NoPrice, OutTooLarge, RoundsToNothing}
use Rattle.ilp_assets.specs.Assets.{PlainAsset, PlainPrice, PlainTable}
use Rattle.ilp_assets.specs.Faults.{fault_of}
use Rattle.ilp_assets.specs.Quote.{quote}

-- dollars at scale 2
abbrev pub usd : PlainAsset
usd = record { code = codes "USD"; scale = 2 }

-- euros at scale 9
abbrev pub eur : PlainAsset
eur = record { code = codes "EUR"; scale = 9 }

-- yen at scale 12
abbrev pub jpy : PlainAsset
jpy = record { code = codes "JPY"; scale = 12 }

-- pounds, which stand in no table here
abbrev pub gbp : PlainAsset
gbp = record { code = codes "GBP"; scale = 2 }

-- the price p / q
abbrev pub priced : PlainAsset → PlainAsset → ℕ → ℕ → PlainPrice
priced a b p q = record { from = a; to = b; p = p; q = q }

-- dollars and euros, at one price in each direction
abbrev pub both : PlainTable
both = record { assets = usd ∷ eur ∷ []; prices = priced usd eur 1 1 ∷ priced eur usd 1 1 ∷ [] }

-- dollars and euros, of which dollars alone have a price
abbrev pub one_way : PlainTable
one_way = record { assets = usd ∷ eur ∷ []; prices = priced usd eur 2 7 ∷ [] }

-- what passes
abbrev pub passes : ℕ → ℕ → ℕ → Result Quote QuoteFault
passes fee net out = Ok (record { fee = fee; net = net; out = out })

-- fees are rounded up, what goes out is rounded down, and a price holds in its direction
pub record QuoteRows : Type 0 where
  pub priced : quote one_way 0 1 10000 1001 ≡ passes 11 990 2828571428
  pub reversed : quote one_way 1 0 10000 1001 ≡ Err NoPrice
  pub within_one : quote one_way 0 0 1 1000001 ≡ passes 2 999999 999999
  pub all_fee : quote one_way 0 0 1 1 ≡ Err RoundsToNothing
  pub whole_fee : quote one_way 0 0 1000000 18446744073709551615 ≡ Err RoundsToNothing
  pub nothing : quote one_way 0 1 1 0 ≡ passes 0 0 0

-- from scale 2 to scale 9 and back
pub record ScaleRows : Type 0 where
  pub up : quote both 0 1 0 18446744073709551615 ≡ Err OutTooLarge
  pub down : quote both 1 0 0 9999999 ≡ Err RoundsToNothing
  pub down_to_one : quote both 1 0 0 10000000 ≡ passes 0 10000000 1

-- each fault, and the first of two
pub record FaultRows : Type 0 where
  pub none : fault_of both.assets both.prices ≡ None
  pub double_asset : fault_of (usd ∷ eur ∷ usd ∷ []) (priced usd gbp 1 1 ∷ []) ≡ Some DoubleAsset
  pub no_such_asset : fault_of (usd ∷ eur ∷ jpy ∷ []) (priced usd gbp 0 1 ∷ []) ≡ Some NoSuchAsset
  pub zero_price : fault_of (usd ∷ eur ∷ jpy ∷ []) (priced usd eur 0 1 ∷ []) ≡ Some ZeroPrice
  pub double_price : fault_of (usd ∷ eur ∷ jpy ∷ []) (priced usd eur 1 1 ∷ priced usd eur 2 1 ∷ []) ≡ Some DoublePrice
  pub itself : fault_of (usd ∷ eur ∷ jpy ∷ []) (priced usd usd 1 1 ∷ []) ≡ Some DoublePrice
  pub scale_gap : fault_of (usd ∷ eur ∷ jpy ∷ []) (priced usd jpy 1 1 ∷ []) ≡ Some ScaleGap
