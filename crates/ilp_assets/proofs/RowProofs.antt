-- The worked rows compute.
use Rattle.std.proofs.Common.{refl}
use Rattle.ilp_assets.specs.Faults.{fault_of, price_fault}
use Rattle.ilp_assets.specs.Quote.{quote}
use Rattle.ilp_assets.specs.Rows.{QuoteRows, ScaleRows, FaultRows}

pub quote_rows : QuoteRows
unfolding quote
quote_rows = record { priced = refl; reversed = refl; within_one = refl; all_fee = refl; whole_fee = refl; nothing = refl }

pub scale_rows : ScaleRows
unfolding quote
scale_rows = record { up = refl; down = refl; down_to_one = refl }

pub fault_rows : FaultRows
unfolding fault_of price_fault
fault_rows = record { none = refl; double_asset = refl; no_such_asset = refl; zero_price = refl; double_price = refl; itself = refl; scale_gap = refl }
