-- A response that is to be written, as contracts see it.
use Rattle.std.specs.Prelude.{◌≡◌, ◌⊎◌, ℕ, List, [], Bool, true, false, Option, Some, None, Result, Ok, Err, ⊤}
use Rattle.ilp_http.specs.declared.status.Status.TheVariants as status
use Rattle.ilp_http.specs.declared.status.Kind.TheVariants as kind
use Rattle.ilp_replies.specs.declared.rejects.ToldReject.{ToldReject}
use Rattle.ilp_replies.specs.declared.messages.MessageFault.TheVariants as message_fault
use Rattle.ilp_workers.specs.Worker.{PlainWorker}
use Rattle.ilp_server.specs.declared.handled.Deed.{Deed}
use Rattle.ilp_server.specs.declared.handled.Deed.TheVariants as deed
use Rattle.ilp_server.specs.declared.unserved.NotServed.{NotServed}
use Rattle.ilp_server.specs.declared.unserved.NotServed.TheVariants as unserved
use Rattle.ilp_server.specs.declared.served.Served.{Served}
use Rattle.ilp_server.specs.declared.served.Served.TheVariants.{Packet, Booked, BelowLeast, Message, Report, Close}
use Rattle.ilp_server.specs.declared.response.Body.{Body}
use Rattle.ilp_server.specs.declared.response.Body.TheVariants.{Nothing, Octets, Text}
use Rattle.ilp_server.specs.Statuses.{status_of}
use Rattle.ilp_server.specs.Deeds.{packet_deed, deed_of}
use Rattle.ilp_server.specs.Serving.{Reply, reply, bare, reply_to}

-- the octets behind the head
abbrev pub octets_in : Body → List ℕ
octets_in Nothing = []
octets_in (Octets octets) = octets.octets
octets_in (Text text) = text.items

-- what is written, what its request brought about, and whether that asks for the connector to close
pub record PlainResponse : Type 0 where
  pub reply : Reply
  pub deed : Deed
  pub closes : Bool

abbrev pub response : Reply → Deed → Bool → PlainResponse
response reply deed closes = record { reply = reply; deed = deed; closes = closes }

-- ---- by what became of the request

-- whether the request asks for the connector to close
abbrev pub closes_of : Result Served NotServed → Bool
closes_of (Ok (Packet peer rejected)) = false
closes_of (Ok (Booked peer kept text)) = false
closes_of (Ok (BelowLeast text)) = false
closes_of (Ok Message) = false
closes_of (Ok (Report text)) = false
closes_of (Ok Close) = true
closes_of (Err why) = false

-- the response to what a worker made of a request
abbrev pub response_to : PlainWorker → Result Served NotServed → PlainResponse
response_to worker outcome = response (reply_to worker outcome) (deed_of outcome) (closes_of outcome)

-- The response has no octets of a worker's: it is to no packet and to no message that was answered.
abbrev pub NeedsNoWorker : Result Served NotServed → Type 0
NeedsNoWorker (Ok (Packet peer rejected)) = ⊥
NeedsNoWorker (Ok (Booked peer kept text)) = ⊤
NeedsNoWorker (Ok (BelowLeast text)) = ⊤
NeedsNoWorker (Ok Message) = ⊥
NeedsNoWorker (Ok (Report text)) = ⊤
NeedsNoWorker (Ok Close) = ⊤
NeedsNoWorker (Err why) = ⊤

-- the response to what is not served
abbrev pub refusal : NotServed → PlainResponse
refusal why = response (bare (status_of why)) (deed_of (Err why)) false

-- the response to what is done, and of which there is nothing to tell
abbrev pub done : PlainResponse
done = response (bare status.Ok) deed.Nothing false

-- ---- to a packet and to a message

-- the response to a packet of this sender, by the Reject that it is answered, if it is one, and by the octets
abbrev pub to_packet : ℕ → Option ToldReject → List ℕ → PlainResponse
to_packet sender rejected octets = response (reply status.Ok kind.OctetStream octets) (packet_deed sender rejected) false

-- The same, unless memory for the octets is denied.
abbrev pub IsToPacket : ℕ → Option ToldReject → List ℕ → PlainResponse → Type 0
IsToPacket sender rejected octets r = (r ≡ to_packet sender rejected octets) ⊎ (r ≡ refusal unserved.Memory)

-- the response to a message to which the peer's engine answered this
abbrev pub to_message : List ℕ → PlainResponse
to_message answer = response (reply status.Created kind.OctetStream answer) deed.Nothing false

-- What the peer's engine answered is passed on, unless memory for it is denied. Where it answered nothing, that is told.
abbrev pub IsToMessage : Option (List ℕ) → PlainResponse → Type 0
IsToMessage (Some answer) r = (r ≡ to_message answer) ⊎ (r ≡ refusal unserved.Memory)
IsToMessage None r = r ≡ refusal (unserved.Message message_fault.NoAnswer)
