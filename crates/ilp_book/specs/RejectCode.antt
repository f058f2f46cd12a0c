-- The code of the Reject that the sender of a refused Prepare gets (RFC 0027, "Error Codes").
use Rattle.std.specs.Prelude.{ℕ, List, codes}
use Rattle.ilp_assets.specs.declared.quote.QuoteFault.TheVariants as quote_fault
use Rattle.ilp_book.specs.declared.fault.HoldFault.{HoldFault}
use Rattle.ilp_book.specs.declared.fault.HoldFault.TheVariants as hold_fault

abbrev pub reject_code : HoldFault → List ℕ
reject_code (hold_fault.AmountTooLarge max) = codes "F08"
reject_code hold_fault.NoRoute = codes "F02"
reject_code hold_fault.BackToSender = codes "F02"
reject_code hold_fault.Expired = codes "R00"
reject_code hold_fault.TooShort = codes "R02"
reject_code (hold_fault.Quote quote_fault.NoPrice) = codes "F02"
reject_code (hold_fault.Quote quote_fault.OutTooLarge) = codes "F03"
reject_code (hold_fault.Quote quote_fault.RoundsToNothing) = codes "R01"
reject_code hold_fault.Full = codes "T03"
reject_code hold_fault.TotalFull = codes "T04"
reject_code (hold_fault.BelowLeast balance) = codes "T04"
reject_code hold_fault.Memory = codes "T00"
