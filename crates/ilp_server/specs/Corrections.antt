-- Corrections of balances: what is booked of one, and what it is answered.
use Rattle.std.specs.Prelude.{ℕ, Bool, ℤ, pos, ◌-ℤ◌, List, ◌++◌, if◌then◌else◌, codes}
use Rattle.std.specs.Fmt.{decimal, signed_decimal}
use Rattle.ilp_journal.specs.declared.credit_kind.CreditKind.{CreditKind}
use Rattle.ilp_journal.specs.declared.credit_kind.CreditKind.TheVariants.{Raised, Lowered}
use Rattle.ilp_settlement.specs.Correction.{PlainCorrection}
use Rattle.ilp_server.specs.declared.handled.ToldChange.{ToldChange}
use Rattle.ilp_server.specs.declared.handled.ToldChange.TheVariants.{Rise, Fall}

-- which way a balance is moved, and why
abbrev pub kind_of : PlainCorrection → CreditKind
kind_of c = if c.lowers then Lowered c.reason else Raised c.reason

-- what was told of it
abbrev pub change_of : PlainCorrection → ToldChange
change_of c = if c.lowers then Fall c.quantity else Rise c.quantity

-- what an amount moves a balance by: it falls by it, or rises
abbrev pub moved_by : Bool → ℕ → ℤ
moved_by lowers amount = if lowers then pos 0 -ℤ pos amount else pos amount

-- ---- JSON, without a blank

-- what a balance was moved by, at the scale of its account
abbrev pub change_text : ℤ → ℕ → List ℕ
change_text change scale =
    codes "{\"amount\":\"" ++ signed_decimal change ++ codes "\",\"scale\":" ++ decimal scale ++ codes "}"

-- a balance, and the least that it may be
abbrev pub least_text : ℤ → ℤ → ℕ → List ℕ
least_text balance least scale =
    codes "{\"balance\":\"" ++ signed_decimal balance ++ codes "\",\"least\":\"" ++ signed_decimal least ++ codes "\",\"scale\":" ++ decimal scale ++ codes "}"
