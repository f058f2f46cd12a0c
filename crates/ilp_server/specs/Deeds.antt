-- What a request brought about that an operator is told of.
use Rattle.std.specs.Prelude.{ℕ, if◌then◌else◌, Option, Some, None, Result, Ok, Err}
use Rattle.ilp_book.specs.declared.calls.Kept.{Kept}
use Rattle.ilp_workers.specs.declared.crediting.NotCredited.{NotCredited}
use Rattle.ilp_workers.specs.declared.crediting.NotCredited.TheVariants.{Refused, NotKept}
use Rattle.ilp_replies.specs.declared.rejects.ToldReject.{ToldReject}
use Rattle.ilp_book.specs.declared.fault.CreditFault.{CreditFault}
use Rattle.ilp_book.specs.declared.fault.CreditFault.TheVariants.{KeyTaken}
use Rattle.ilp_server.specs.declared.unserved.NotServed.{NotServed}
use Rattle.ilp_server.specs.declared.unserved.NotServed.TheVariants.{Credit}
use Rattle.ilp_server.specs.declared.served.Served.{Served}
use Rattle.ilp_server.specs.declared.served.Served.TheVariants.{Packet, Booked, BelowLeast, Message, Report, Close}
use Rattle.ilp_server.specs.declared.handled.ToldChange.{ToldChange}
use Rattle.ilp_server.specs.declared.handled.Deed.{Deed}
use Rattle.ilp_server.specs.declared.handled.Deed.TheVariants.{Nothing, Credited, Rejected}
use Rattle.ilp_server.specs.declared.handled.Deed.TheVariants as deed

-- a credit, if it was made now
abbrev pub credit_deed : ℕ → Kept → Deed
credit_deed peer kept = if kept.fresh then Credited peer kept.number kept.amount else Nothing

-- a settlement or a correction that is not booked, if that is since its key is taken
abbrev pub refusal_deed : ℕ → ToldChange → CreditFault → Deed
refusal_deed peer told (KeyTaken number) = deed.KeyTaken peer number told
refusal_deed peer told fault = Nothing

-- one that is not answered as booked: it may be booked all the same
abbrev pub uncredited_deed : ℕ → ToldChange → NotCredited → Deed
uncredited_deed peer told (Refused fault) = refusal_deed peer told fault
uncredited_deed peer told (NotKept credit) = credit_deed peer credit

-- the Reject that the sender of a packet is answered, if it is one
abbrev pub packet_deed : ℕ → Option ToldReject → Deed
packet_deed peer (Some reject) = Rejected peer reject
packet_deed peer None = Nothing

-- what was done, by what became of the request
abbrev pub deed_of : Result Served NotServed → Deed
deed_of (Ok (Packet peer rejected)) = packet_deed peer rejected
deed_of (Ok (Booked peer kept text)) = credit_deed peer kept
deed_of (Ok (BelowLeast text)) = Nothing
deed_of (Ok Message) = Nothing
deed_of (Ok (Report text)) = Nothing
deed_of (Ok Close) = Nothing
deed_of (Err (Credit peer told fault)) = uncredited_deed peer told fault
deed_of (Err why) = Nothing
