-- The codes of Rejects are ASCII.
use Rattle.std.proofs.Common.{ℕ, zero, suc, ◌<◌, [], ◌∷◌, arith}
use Rattle.std.specs.Str.{IsAscii}
use Rattle.ilp_assets.specs.declared.quote.QuoteFault.TheVariants as quote_fault
use Rattle.ilp_book.specs.declared.fault.HoldFault.{HoldFault}
use Rattle.ilp_book.specs.declared.fault.HoldFault.TheVariants as hold_fault
use Rattle.ilp_book.specs.RejectCode.{reject_code}

three : (a b c : ℕ) → a < 128 → b < 128 → c < 128 → IsAscii (a ∷ b ∷ c ∷ [])
three a b c x y z zero = x
three a b c x y z (suc zero) = y
three a b c x y z (suc (suc zero)) = z
three a b c x y z (suc (suc (suc i))) = omega arith

pub code_is_ascii : (fault : HoldFault) → IsAscii (reject_code fault)
code_is_ascii (hold_fault.AmountTooLarge max) = three _ _ _ (omega arith) (omega arith) (omega arith)
code_is_ascii hold_fault.NoRoute = three _ _ _ (omega arith) (omega arith) (omega arith)
code_is_ascii hold_fault.BackToSender = three _ _ _ (omega arith) (omega arith) (omega arith)
code_is_ascii hold_fault.Expired = three _ _ _ (omega arith) (omega arith) (omega arith)
code_is_ascii hold_fault.TooShort = three _ _ _ (omega arith) (omega arith) (omega arith)
code_is_ascii (hold_fault.Quote quote_fault.NoPrice) = three _ _ _ (omega arith) (omega arith) (omega arith)
code_is_ascii (hold_fault.Quote quote_fault.OutTooLarge) = three _ _ _ (omega arith) (omega arith) (omega arith)
code_is_ascii (hold_fault.Quote quote_fault.RoundsToNothing) = three _ _ _ (omega arith) (omega arith) (omega arith)
code_is_ascii hold_fault.Full = three _ _ _ (omega arith) (omega arith) (omega arith)
code_is_ascii hold_fault.TotalFull = three _ _ _ (omega arith) (omega arith) (omega arith)
code_is_ascii (hold_fault.BelowLeast balance) = three _ _ _ (omega arith) (omega arith) (omega arith)
code_is_ascii hold_fault.Memory = three _ _ _ (omega arith) (omega arith) (omega arith)
