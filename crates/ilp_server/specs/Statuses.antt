-- What a request is answered that is not served.
use Rattle.std.specs.Prelude.{Result, Ok, Err}
use Rattle.ilp_http.specs.Writing as writing
use Rattle.ilp_http.specs.declared.refusal.RequestFault.{RequestFault}
use Rattle.ilp_http.specs.declared.refusal.RequestFault.TheVariants as request_fault
use Rattle.ilp_http.specs.declared.status.Status.{Status}
use Rattle.ilp_http.specs.declared.status.Status.TheVariants.{BadRequest, Unauthorized, Forbidden, NotFound, Conflict, BadGateway, Unavailable}
use Rattle.ilp_settlement.specs.declared.quantity.QuantityFault.TheVariants as quantity_fault
use Rattle.ilp_settlement.specs.declared.correction.CorrectionFault.TheVariants as correction_fault
use Rattle.ilp_book.specs.declared.fault.CreditFault.{CreditFault}
use Rattle.ilp_book.specs.declared.fault.CreditFault.TheVariants as credit_fault
use Rattle.ilp_workers.specs.declared.crediting.NotCredited.TheVariants.{Refused, NotKept}
use Rattle.ilp_replies.specs.declared.messages.MessageFault.TheVariants as message_fault
use Rattle.ilp_server.specs.declared.unserved.NotServed.{NotServed}
use Rattle.ilp_server.specs.declared.unserved.NotServed.TheVariants.{NoRequest, UnknownTarget, UnknownSender, Packet, NoKey, Quantity, Correction, Credit, Message, NewPeriod, Memory}
use Rattle.ilp_server.specs.declared.handled.ConnectionFault.{ConnectionFault}
use Rattle.ilp_server.specs.declared.handled.ConnectionFault.TheVariants as connection_fault

-- the status of a settlement that is not credited, and of a correction that is not booked
abbrev pub status_of_credit : CreditFault → Status
status_of_credit credit_fault.TooLarge = BadRequest
status_of_credit (credit_fault.KeyTaken kept) = Conflict
status_of_credit (credit_fault.BelowLeast balance least) = Forbidden
status_of_credit credit_fault.Full = Unavailable
status_of_credit credit_fault.Memory = Unavailable

-- the status of each reason
abbrev pub status_of : NotServed → Status
status_of (NoRequest refusal) = writing.status_of refusal
status_of UnknownTarget = NotFound
status_of UnknownSender = Unauthorized
status_of (Packet fault) = BadRequest
status_of NoKey = BadRequest
status_of (Quantity quantity_fault.NotJson) = BadRequest
status_of (Quantity quantity_fault.BadAmount) = BadRequest
status_of (Quantity quantity_fault.BadScale) = BadRequest
status_of (Quantity quantity_fault.Memory) = Unavailable
status_of (Correction correction_fault.NotJson) = BadRequest
status_of (Correction correction_fault.BadAmount) = BadRequest
status_of (Correction correction_fault.BadScale) = BadRequest
status_of (Correction correction_fault.BadReason) = BadRequest
status_of (Correction correction_fault.Memory) = Unavailable
status_of (Credit peer told (Refused fault)) = status_of_credit fault
status_of (Credit peer told (NotKept credit)) = Unavailable
status_of (Message message_fault.TooLong) = BadGateway
status_of (Message message_fault.NoAnswer) = BadGateway
status_of (Message message_fault.Memory) = Unavailable
status_of NewPeriod = Unavailable
status_of Memory = Unavailable

-- Where no request was read, its refusal is answered. After a failed read, and where memory for its fields was denied, nothing is.
abbrev pub unread : RequestFault → Result NotServed ConnectionFault
unread (request_fault.Refused refusal) = Ok (NoRequest refusal)
unread request_fault.Failed = Err connection_fault.Read
unread request_fault.TooManyReads = Err connection_fault.Read
unread request_fault.Memory = Err connection_fault.Memory
