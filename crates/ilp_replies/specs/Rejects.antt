-- The Rejects that the connector gives itself (RFC 0027, "Error Codes").
use Rattle.std.specs.Prelude.{ℕ, List, [], ◌++◌, codes}
use Rattle.std.specs.Int.{w64, to_be_bytes}
use Rattle.ilp_packet.specs.Packet.{PlainReject}
use Rattle.ilp_assets.specs.declared.quote.QuoteFault.TheVariants as quote_fault
use Rattle.ilp_accounts.specs.Configuration.{Configuration}
use Rattle.ilp_book.specs.declared.fault.HoldFault.{HoldFault}
use Rattle.ilp_book.specs.declared.fault.HoldFault.TheVariants as hold_fault
use Rattle.ilp_replies.specs.declared.rejects.LocalReject.{LocalReject}
use Rattle.ilp_replies.specs.declared.rejects.ToldReject.{ToldReject}
use Rattle.ilp_replies.specs.declared.rejects.ToldReject.TheVariants.{Own, Peer}
use Rattle.ilp_replies.specs.declared.rejects.LocalReject.TheVariants.{Unreachable, InvalidAmount, WrongCondition, AmountTooLarge, InternalError, PeerUnreachable, ConnectorBusy, InsufficientLiquidity, TransferTimedOut, InsufficientSourceAmount, InsufficientTimeout}

abbrev pub code_of : LocalReject → List ℕ
code_of Unreachable = codes "F02"
code_of InvalidAmount = codes "F03"
code_of WrongCondition = codes "F05"
code_of (AmountTooLarge received most) = codes "F08"
code_of InternalError = codes "T00"
code_of PeerUnreachable = codes "T01"
code_of ConnectorBusy = codes "T03"
code_of InsufficientLiquidity = codes "T04"
code_of TransferTimedOut = codes "R00"
code_of InsufficientSourceAmount = codes "R01"
code_of InsufficientTimeout = codes "R02"

-- the code of the Reject that a sender was told
abbrev pub told_code : ToldReject → List ℕ
told_code (Own why) = code_of why
told_code (Peer code) = code

abbrev pub message_of : LocalReject → List ℕ
message_of Unreachable = codes "unreachable"
message_of InvalidAmount = codes "invalid amount"
message_of WrongCondition = codes "wrong condition"
message_of (AmountTooLarge received most) = codes "amount too large"
message_of InternalError = codes "internal error"
message_of PeerUnreachable = codes "peer unreachable"
message_of ConnectorBusy = codes "connector busy"
message_of InsufficientLiquidity = codes "insufficient liquidity"
message_of TransferTimedOut = codes "timed out"
message_of InsufficientSourceAmount = codes "insufficient source amount"
message_of InsufficientTimeout = codes "insufficient timeout"

-- the amount that was received and the greatest amount that is taken, for a Reject that has data
abbrev pub payload_of : LocalReject → List ℕ
payload_of (AmountTooLarge received most) = to_be_bytes w64 received ++ to_be_bytes w64 most
payload_of _ = []

-- the connector's own Reject
abbrev pub local_reject : Configuration → LocalReject → PlainReject
local_reject config why = record {
  code = code_of why;
  triggered_by = config.settings.address;
  message = message_of why;
  payload = payload_of why;
}

-- the most octets that any of them has, where the address has at most 1,023
abbrev pub longest_local_reject : ℕ
longest_local_reject = 1067

-- the Reject of a Prepare of this amount that the book refused
abbrev pub reject_of_fault : ℕ → HoldFault → LocalReject
reject_of_fault amount (hold_fault.AmountTooLarge max) = AmountTooLarge amount max
reject_of_fault amount hold_fault.NoRoute = Unreachable
reject_of_fault amount hold_fault.BackToSender = Unreachable
reject_of_fault amount hold_fault.Expired = TransferTimedOut
reject_of_fault amount hold_fault.TooShort = InsufficientTimeout
reject_of_fault amount (hold_fault.Quote quote_fault.NoPrice) = Unreachable
reject_of_fault amount (hold_fault.Quote quote_fault.OutTooLarge) = InvalidAmount
reject_of_fault amount (hold_fault.Quote quote_fault.RoundsToNothing) = InsufficientSourceAmount
reject_of_fault amount hold_fault.Full = ConnectorBusy
reject_of_fault amount hold_fault.TotalFull = InsufficientLiquidity
reject_of_fault amount (hold_fault.BelowLeast balance) = InsufficientLiquidity
reject_of_fault amount hold_fault.Memory = InternalError
