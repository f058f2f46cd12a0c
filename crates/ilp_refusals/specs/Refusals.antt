-- Refusals by number and name: the one table of both.
use Rattle.std.specs.Prelude.{ℕ, List, [], ◌++◌, Option, Some, None, codes}
use Rattle.std.specs.Fmt.{decimal, signed_decimal}
use Rattle.ilp_fields.specs.declared.fault.Field.{Field}
use Rattle.ilp_fields.specs.declared.fault.ConfigFault.{ConfigFault}
use Rattle.ilp_fields.specs.declared.fault.ConfigFault.TheVariants as config_fault
use Rattle.ilp_accounts.specs.Keys.{key}
use Rattle.ilp_packet.specs.declared.fault.PacketFault.{PacketFault}
use Rattle.ilp_packet.specs.declared.fault.PacketFault.TheVariants as packet_fault
use Rattle.ilp_assets.specs.declared.quote.QuoteFault.{QuoteFault}
use Rattle.ilp_assets.specs.declared.quote.QuoteFault.TheVariants as quote_fault
use Rattle.ilp_settlement.specs.declared.quantity.QuantityFault.{QuantityFault}
use Rattle.ilp_settlement.specs.declared.quantity.QuantityFault.TheVariants as quantity_fault
use Rattle.ilp_book.specs.declared.fault.HoldFault.{HoldFault}
use Rattle.ilp_book.specs.declared.fault.HoldFault.TheVariants as hold_fault
use Rattle.ilp_book.specs.declared.fault.CreditFault.{CreditFault}
use Rattle.ilp_book.specs.declared.fault.CreditFault.TheVariants as credit_fault
use Rattle.ilp_book.specs.declared.fault.AskFault.{AskFault}
use Rattle.ilp_book.specs.declared.fault.AskFault.TheVariants as ask_fault
use Rattle.ilp_next_period.specs.declared.forward_fault.ForwardFault.{ForwardFault}
use Rattle.ilp_next_period.specs.declared.forward_fault.ForwardFault.TheVariants as forward_fault
use Rattle.ilp_rules.specs.declared.fault.CarryFault.{CarryFault}
use Rattle.ilp_rules.specs.declared.fault.CarryFault.TheVariants as carry_fault
use Rattle.ilp_refusals.specs.declared.refusal.Refusal.{Refusal}
use Rattle.ilp_refusals.specs.declared.refusal.Refusal.TheVariants as refusals
use Rattle.ilp_refusals.specs.declared.refusal.Refusal.TheVariants.{Truncated, BadPrefix, TooLong, UnknownType, Trailing, BadExpiry, BadAddress, FieldTooLong, BadHex, NotPrepare, DoubleAsset, NoSuchAsset, ScaleGap, ZeroPrice, NoPrice, RoundsToNothing, OutTooLarge, DoublePrice, ConfigUnread, NotToml, Missing, BadValue, DoublePeer, DoubleToken, DoubleRoute, BadLevels, NotJson, BadAmount, BadScale, TooLarge, AmountTooLarge, NoRoute, BackToSender, Expired, TooShort, Full, TotalFull, BelowLeast, Memory, KeyTaken, NotDue, StillOpen, MissingEnd, DoubleEnd, Disagrees, ReadFault, WriteFault, ScriptTooLong, ListenFault, SpawnFault, BadJournalText, Unlawful, JournalUnread, OtherRun, LastPeriod, HoldOpen, BalanceTooLarge, PeerRemoved, OtherAsset, NotFollowing}

-- a number, and a name
abbrev pub refusal_row : Refusal → ℕ × List ℕ
refusal_row Truncated = (1, codes "Truncated")
refusal_row BadPrefix = (2, codes "BadPrefix")
refusal_row TooLong = (3, codes "TooLong")
refusal_row UnknownType = (4, codes "UnknownType")
refusal_row Trailing = (5, codes "Trailing")
refusal_row BadExpiry = (6, codes "BadExpiry")
refusal_row BadAddress = (7, codes "BadAddress")
refusal_row FieldTooLong = (8, codes "FieldTooLong")
refusal_row BadHex = (9, codes "BadHex")
refusal_row NotPrepare = (10, codes "NotPrepare")
refusal_row DoubleAsset = (11, codes "DoubleAsset")
refusal_row NoSuchAsset = (12, codes "NoSuchAsset")
refusal_row ScaleGap = (13, codes "ScaleGap")
refusal_row ZeroPrice = (14, codes "ZeroPrice")
refusal_row NoPrice = (15, codes "NoPrice")
refusal_row RoundsToNothing = (16, codes "RoundsToNothing")
refusal_row OutTooLarge = (17, codes "OutTooLarge")
refusal_row DoublePrice = (18, codes "DoublePrice")
refusal_row ConfigUnread = (20, codes "ConfigUnread")
refusal_row NotToml = (21, codes "NotToml")
refusal_row (Missing field) = (22, codes "Missing")
refusal_row (BadValue field) = (23, codes "BadValue")
refusal_row DoublePeer = (24, codes "DoublePeer")
refusal_row DoubleToken = (25, codes "DoubleToken")
refusal_row DoubleRoute = (26, codes "DoubleRoute")
refusal_row BadLevels = (27, codes "BadLevels")
refusal_row NotJson = (31, codes "NotJson")
refusal_row BadAmount = (32, codes "BadAmount")
refusal_row BadScale = (33, codes "BadScale")
refusal_row TooLarge = (34, codes "TooLarge")
refusal_row (AmountTooLarge max) = (35, codes "AmountTooLarge")
refusal_row NoRoute = (36, codes "NoRoute")
refusal_row BackToSender = (37, codes "BackToSender")
refusal_row Expired = (38, codes "Expired")
refusal_row TooShort = (39, codes "TooShort")
refusal_row Full = (41, codes "Full")
refusal_row TotalFull = (42, codes "TotalFull")
refusal_row (BelowLeast balance) = (43, codes "BelowLeast")
refusal_row Memory = (44, codes "Memory")
refusal_row (KeyTaken kept) = (46, codes "KeyTaken")
refusal_row (NotDue balance) = (47, codes "NotDue")
refusal_row (StillOpen number amount) = (48, codes "StillOpen")
refusal_row (MissingEnd actor) = (51, codes "Missing")
refusal_row (DoubleEnd actor) = (52, codes "Double")
refusal_row (Disagrees actor) = (53, codes "Disagrees")
refusal_row ReadFault = (61, codes "ReadFault")
refusal_row WriteFault = (64, codes "WriteFault")
refusal_row ScriptTooLong = (65, codes "ScriptTooLong")
refusal_row ListenFault = (66, codes "ListenFault")
refusal_row SpawnFault = (67, codes "SpawnFault")
refusal_row (BadJournalText line) = (71, codes "BadJournalText")
refusal_row (Unlawful entry) = (72, codes "Unlawful")
refusal_row JournalUnread = (73, codes "JournalUnread")
refusal_row OtherRun = (74, codes "OtherRun")
refusal_row LastPeriod = (75, codes "LastPeriod")
refusal_row (HoldOpen hold) = (76, codes "HoldOpen")
refusal_row (BalanceTooLarge balance) = (77, codes "BalanceTooLarge")
refusal_row (PeerRemoved balance) = (78, codes "PeerRemoved")
refusal_row (OtherAsset balance) = (79, codes "OtherAsset")
refusal_row (NotFollowing entry) = (80, codes "NotFollowing")

abbrev pub refusal_number : Refusal → ℕ
refusal_number refusal = (refusal_row refusal).0

abbrev pub refusal_name : Refusal → List ℕ
refusal_name refusal = (refusal_row refusal).1

-- the field of a configuration that a refusal names
abbrev pub refusal_field : Refusal → Option Field
refusal_field (Missing field) = Some field
refusal_field (BadValue field) = Some field
refusal_field _ = None

-- what a refusal names, each after a space: a field of the configuration, the greatest amount, the balance, the entry of a key, a settlement with its
-- amount, an actor, a line or an entry of a journal, or a hold
abbrev pub detail_text : Refusal → List ℕ
detail_text (Missing field) = codes " " ++ key field
detail_text (BadValue field) = codes " " ++ key field
detail_text (AmountTooLarge max) = codes " " ++ decimal max
detail_text (BelowLeast balance) = codes " " ++ signed_decimal balance
detail_text (KeyTaken kept) = codes " " ++ decimal kept
detail_text (NotDue balance) = codes " " ++ signed_decimal balance
detail_text (StillOpen number amount) = codes " " ++ (decimal number ++ (codes " " ++ decimal amount))
detail_text (MissingEnd actor) = codes " " ++ decimal actor
detail_text (DoubleEnd actor) = codes " " ++ decimal actor
detail_text (Disagrees actor) = codes " " ++ decimal actor
detail_text (BadJournalText line) = codes " " ++ decimal line
detail_text (Unlawful entry) = codes " " ++ decimal entry
detail_text (HoldOpen hold) = codes " " ++ decimal hold
detail_text (BalanceTooLarge balance) = codes " " ++ signed_decimal balance
detail_text (PeerRemoved balance) = codes " " ++ signed_decimal balance
detail_text (OtherAsset balance) = codes " " ++ signed_decimal balance
detail_text (NotFollowing entry) = codes " " ++ decimal entry
detail_text _ = []

-- the name of a refusal, and what it names
abbrev pub named_text : Refusal → List ℕ
named_text refusal = refusal_name refusal ++ detail_text refusal

-- how a refusal is printed: its number, its name, and what it names, with a space between them
abbrev pub refusal_text : Refusal → List ℕ
refusal_text refusal = decimal (refusal_number refusal) ++ (codes " " ++ named_text refusal)

-- the refusal of octets that are no packet
abbrev pub packet_refusal : PacketFault → Refusal
packet_refusal packet_fault.Truncated = refusals.Truncated
packet_refusal packet_fault.BadPrefix = refusals.BadPrefix
packet_refusal packet_fault.TooLong = refusals.TooLong
packet_refusal packet_fault.UnknownType = refusals.UnknownType
packet_refusal packet_fault.Trailing = refusals.Trailing
packet_refusal packet_fault.BadExpiry = refusals.BadExpiry
packet_refusal packet_fault.BadAddress = refusals.BadAddress
packet_refusal packet_fault.FieldTooLong = refusals.FieldTooLong

-- the refusal of octets that give no configuration
abbrev pub config_refusal : ConfigFault → Refusal
config_refusal config_fault.NotToml = refusals.NotToml
config_refusal (config_fault.Missing field) = refusals.Missing field
config_refusal (config_fault.BadValue field) = refusals.BadValue field
config_refusal config_fault.DoubleAsset = refusals.DoubleAsset
config_refusal config_fault.NoSuchAsset = refusals.NoSuchAsset
config_refusal config_fault.ZeroPrice = refusals.ZeroPrice
config_refusal config_fault.DoublePrice = refusals.DoublePrice
config_refusal config_fault.ScaleGap = refusals.ScaleGap
config_refusal config_fault.DoublePeer = refusals.DoublePeer
config_refusal config_fault.DoubleToken = refusals.DoubleToken
config_refusal config_fault.DoubleRoute = refusals.DoubleRoute
config_refusal config_fault.BadLevels = refusals.BadLevels
config_refusal config_fault.Memory = refusals.Memory

-- the refusal of a Prepare whose amount has no quote
abbrev pub quote_refusal : QuoteFault → Refusal
quote_refusal quote_fault.NoPrice = refusals.NoPrice
quote_refusal quote_fault.OutTooLarge = refusals.OutTooLarge
quote_refusal quote_fault.RoundsToNothing = refusals.RoundsToNothing

-- the refusal of a Prepare that is not held
abbrev pub hold_refusal : HoldFault → Refusal
hold_refusal (hold_fault.AmountTooLarge max) = refusals.AmountTooLarge max
hold_refusal hold_fault.NoRoute = refusals.NoRoute
hold_refusal hold_fault.BackToSender = refusals.BackToSender
hold_refusal hold_fault.Expired = refusals.Expired
hold_refusal hold_fault.TooShort = refusals.TooShort
hold_refusal (hold_fault.Quote fault) = quote_refusal fault
hold_refusal hold_fault.Full = refusals.Full
hold_refusal hold_fault.TotalFull = refusals.TotalFull
hold_refusal (hold_fault.BelowLeast balance) = refusals.BelowLeast balance
hold_refusal hold_fault.Memory = refusals.Memory

-- the refusal of octets that are no quantity
abbrev pub quantity_refusal : QuantityFault → Refusal
quantity_refusal quantity_fault.NotJson = refusals.NotJson
quantity_refusal quantity_fault.BadAmount = refusals.BadAmount
quantity_refusal quantity_fault.BadScale = refusals.BadScale
quantity_refusal quantity_fault.Memory = refusals.Memory

-- the refusal of a settlement from a peer, and of a correction
abbrev pub credit_refusal : CreditFault → Refusal
credit_refusal credit_fault.TooLarge = refusals.TooLarge
credit_refusal (credit_fault.KeyTaken kept) = refusals.KeyTaken kept
credit_refusal credit_fault.Full = refusals.Full
credit_refusal (credit_fault.BelowLeast balance least) = refusals.BelowLeast balance
credit_refusal credit_fault.Memory = refusals.Memory

-- the refusal of a settlement to a peer
abbrev pub ask_refusal : AskFault → Refusal
ask_refusal (ask_fault.StillOpen number amount) = refusals.StillOpen number amount
ask_refusal (ask_fault.NotDue balance) = refusals.NotDue balance
ask_refusal ask_fault.Full = refusals.Full
ask_refusal ask_fault.Memory = refusals.Memory

-- the refusal of a journal that is not carried over
abbrev pub carry_refusal : CarryFault → Refusal
carry_refusal (carry_fault.BadJournalText line) = refusals.BadJournalText line
carry_refusal (carry_fault.Unlawful entry rule) = refusals.Unlawful entry
carry_refusal carry_fault.Memory = refusals.Memory

-- the refusal of a book that is not brought forward
abbrev pub forward_refusal : ForwardFault → Refusal
forward_refusal forward_fault.OtherRun = refusals.OtherRun
forward_refusal forward_fault.LastPeriod = refusals.LastPeriod
forward_refusal (forward_fault.HoldOpen hold) = refusals.HoldOpen hold
forward_refusal (forward_fault.BalanceTooLarge peer balance) = refusals.BalanceTooLarge balance
forward_refusal (forward_fault.PeerRemoved peer balance) = refusals.PeerRemoved balance
forward_refusal (forward_fault.OtherAsset peer balance) = refusals.OtherAsset balance
forward_refusal (forward_fault.BelowLeast peer balance) = refusals.BelowLeast balance
forward_refusal forward_fault.Full = refusals.Full
forward_refusal forward_fault.Memory = refusals.Memory
