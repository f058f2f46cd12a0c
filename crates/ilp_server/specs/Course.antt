-- The first half of serving a connection: what is begun of the request that its octets begin with.
use Rattle.std.specs.Prelude.{◌≡◌, ◌⊎◌, ℕ, ◌<◌, List, length, codes, Result, Ok, Err, ⊤}
use Rattle.http_header.specs.FieldValue.{FieldValue}
use Rattle.http_header.specs.HeaderMap.{Entries}
use Rattle.slab.specs.Slab.{Slab}
use Rattle.ilp_accounts.specs.Configuration.{Configuration}
use Rattle.ilp_http.specs.Answer.{IsAnswer}
use Rattle.ilp_http.specs.declared.refusal.RequestFault.{RequestFault}
use Rattle.ilp_http.specs.declared.request.Request.{Request}
use Rattle.ilp_desk.specs.Desk.{PlainDesk}
use Rattle.ilp_replies.specs.EngineMessage.{PlainPeerMessage}
use Rattle.ilp_replies.specs.declared.messages.MessageFault.{MessageFault}
use Rattle.ilp_workers.specs.Worker.{PlainWorker}
use Rattle.ilp_workers.specs.Arrivals.{Arrival, arrival}
use Rattle.ilp_workers.specs.Pending.{PlainPending}
use Rattle.ilp_workers.specs.MessageHalves.{Addresses}
use Rattle.ilp_flight.specs.Flight.{Starts}
use Rattle.ilp_flight.specs.declared.flight.Started.{Started}
use Rattle.ilp_flight.specs.declared.flight.Started.TheVariants as started
use Rattle.ilp_flight.specs.declared.flight.NoStart.{NoStart}
use Rattle.ilp_flight.specs.declared.flight.NoStart.TheVariants as no_start
use Rattle.ilp_server.specs.declared.target.Side.{Side}
use Rattle.ilp_server.specs.declared.target.Target.{Target}
use Rattle.ilp_server.specs.declared.target.Target.TheVariants as target
use Rattle.ilp_server.specs.declared.handled.ConnectionFault.{ConnectionFault}
use Rattle.ilp_server.specs.declared.unserved.NotServed.{NotServed}
use Rattle.ilp_server.specs.declared.unserved.NotServed.TheVariants as unserved
use Rattle.ilp_server.specs.declared.served.Served.{Served}
use Rattle.ilp_server.specs.declared.course.Course.{Course}
use Rattle.ilp_server.specs.declared.course.Course.TheVariants.{Answered, Packet, Credit, ToEngine, ToPeer, Reload, Pause, Resume, Unanswered}
use Rattle.ilp_server.specs.Targets.{AsksFor}
use Rattle.ilp_server.specs.Fields.{values_in, IsFrom}
use Rattle.ilp_server.specs.Statuses.{unread}
use Rattle.ilp_server.specs.Serving.{Inquiry, inquiry, TellsReport, ServesTarget}
use Rattle.ilp_server.specs.Response.{PlainResponse, response_to, refusal, IsToPacket}
use Rattle.ilp_server.specs.declared.pending_credit.CreditCourse.{CreditCourse}
use Rattle.ilp_server.specs.declared.pending_credit.CreditCourse.TheVariants.{Waits, Over}
use Rattle.ilp_server.specs.CreditHalves.{BeginsSettlement, BeginsCorrection}

-- a worker, and what it began that waits
pub record PlainFlight : Type 0 where
  pub worker : PlainWorker
  pub waiting : Slab PlainPending

abbrev pub flight_of : PlainWorker → Slab PlainPending → PlainFlight
flight_of worker waiting = record { worker = worker; waiting = waiting }

-- It is refused for this reason, and all is as it was.
abbrev pub IsSentAway : {J : Type 0} → NotServed → PlainFlight → PlainFlight → Course J → Type 0
IsSentAway why before after course = (course ≡ Answered (refusal why)) × (after ≡ before)

-- ---- a packet

-- how the packet of a sender goes on, by what was begun of it
abbrev pub IsCourseOf : {J : Type 0} → ℕ → PlainWorker → Result Started NoStart → Course J → Type 0
IsCourseOf sender after (Ok (started.Answered receipt)) course =
    (r : PlainResponse) × IsToPacket sender receipt.rejected after.reply r × (course ≡ Answered r)
IsCourseOf sender after (Ok (started.Waits key)) course = course ≡ Packet sender key
IsCourseOf sender after (Ok (started.Asks message)) course = course ≡ ToEngine message
IsCourseOf sender after (Err (no_start.Bad fault)) course = course ≡ Answered (refusal (unserved.Packet fault))
IsCourseOf sender after (Err no_start.Memory) course = course ≡ Answered (refusal unserved.Memory)

-- What a peer sent is begun, or is not, and goes on by that.
abbrev pub StartsPacket : {J : Type 0} → Arrival → PlainFlight → PlainFlight → Course J → Type 0
StartsPacket a before after course =
    (begun : Result Started NoStart)
    × Starts a before.waiting after.waiting before.worker after.worker begun × IsCourseOf a.from after.worker begun course

-- A packet: without a token of a peer it is refused; else the body is begun, as the packet of the peer whose token it is.
abbrev pub BeginsPacket : {J : Type 0} → PlainDesk → Entries FieldValue → List ℕ → PlainFlight → PlainFlight → Course J → Type 0
BeginsPacket desk headers body before after course =
    let shown = values_in headers (codes "authorization") in
    (((peer : ℕ) → ¬ (IsFrom desk.config shown peer)) × IsSentAway unserved.UnknownSender before after course)
    ⊎ ((peer : ℕ) × IsFrom desk.config shown peer × StartsPacket (arrival desk peer body) before after course)

-- ---- whatever else

-- how a message goes on that is ready for a peer, or is not
abbrev pub course_of_message : {J : Type 0} → Result PlainPeerMessage MessageFault → Course J
course_of_message (Ok message) = ToPeer message
course_of_message (Err fault) = Answered (refusal (unserved.Message fault))

-- A message of the engine of a peer: the body is made ready for that peer.
abbrev pub BeginsMessage : {J : Type 0} → PlainDesk → ℕ → List ℕ → PlainFlight → PlainFlight → Course J → Type 0
BeginsMessage desk peer body before after course =
    (message : Result PlainPeerMessage MessageFault)
    × Addresses desk.config peer body before.worker after.worker message × (after.waiting ≡ before.waiting) × (course ≡ course_of_message message)

-- how a settlement or a correction goes on
abbrev pub course_of_credit : {J : Type 0} → PlainWorker → CreditCourse J → Course J
course_of_credit worker (Waits c) = Credit c
course_of_credit worker (Over outcome) = Answered (response_to worker outcome)

-- A settlement or a correction is begun so, and goes on by that. What waited still waits.
abbrev pub IsCreditBegun : {J : Type 0} → (PlainWorker → PlainWorker → CreditCourse J → Type 0) → PlainFlight → PlainFlight → Course J → Type 0
IsCreditBegun {J} Begins before after course =
    (credit : CreditCourse J)
    × Begins before.worker after.worker credit × (after.waiting ≡ before.waiting) × (course ≡ course_of_credit after.worker credit)

-- It is served whole, and answered by what became of it. What waited still waits.
abbrev pub IsServedWhole : {J : Type 0} → PlainDesk → Inquiry → Target → PlainFlight → PlainFlight → Course J → Type 0
IsServedWhole desk i t before after course =
    (outcome : Result Served NotServed)
    × ServesTarget desk i t before.worker after.worker outcome × (after.waiting ≡ before.waiting) × (course ≡ Answered (response_to after.worker outcome))

-- A report: it is told with this behind it, and all is as it was.
abbrev pub BeginsReport : {J : Type 0} → PlainDesk → List ℕ → PlainFlight → PlainFlight → Course J → Type 0
BeginsReport desk behind before after course =
    (outcome : Result Served NotServed)
    × TellsReport desk behind outcome × (after ≡ before) × (course ≡ Answered (response_to after.worker outcome))

-- by what the request asks for, where a report has this behind it
abbrev pub BeginsTarget : {J : Type 0} → PlainDesk → List ℕ → Inquiry → Target → PlainFlight → PlainFlight → Course J → Type 0
BeginsTarget desk behind i target.Packet before after course = BeginsPacket desk i.headers i.body before after course
BeginsTarget desk behind i (target.Settlement peer) before after course = IsCreditBegun (BeginsSettlement desk peer i.headers i.body) before after course
BeginsTarget desk behind i (target.Correction peer) before after course = IsCreditBegun (BeginsCorrection desk peer i.headers i.body) before after course
BeginsTarget desk behind i (target.Message peer) before after course = BeginsMessage desk peer i.body before after course
BeginsTarget desk behind i target.Report before after course = BeginsReport desk behind before after course
BeginsTarget desk behind i target.Close before after course = IsServedWhole desk i target.Close before after course
BeginsTarget desk behind i target.Reload before after course = (course ≡ Reload) × (after ≡ before)
BeginsTarget desk behind i (target.Pause peer) before after course = (course ≡ Pause peer) × (after ≡ before)
BeginsTarget desk behind i (target.Resume peer) before after course = (course ≡ Resume peer) × (after ≡ before)

-- What asks for nothing is refused, whatever else it has.
abbrev pub BeginsInquiry : {J : Type 0} → PlainDesk → List ℕ → Inquiry → PlainFlight → PlainFlight → Course J → Type 0
BeginsInquiry desk behind i before after course =
    (((t : Target) → ¬ (AsksFor desk.config i.side i.path t)) × IsSentAway unserved.UnknownTarget before after course)
    ⊎ ((t : Target) × AsksFor desk.config i.side i.path t × BeginsTarget desk behind i t before after course)

-- ---- the octets of a connection

-- where no request was read: its refusal is written, or nothing is
abbrev pub course_of_unread : {J : Type 0} → Result NotServed ConnectionFault → Course J
course_of_unread (Ok why) = Answered (refusal why)
course_of_unread (Err fault) = Unanswered fault

-- by what was read
abbrev pub IsBegunBy : {J : Type 0} → PlainDesk → Side → List ℕ → Result Request RequestFault → PlainFlight → PlainFlight → Course J → Type 0
IsBegunBy desk side behind (Ok request) before after course =
    BeginsInquiry desk behind (inquiry side request.path.now request.headers request.body.now) before after course
IsBegunBy desk side behind (Err fault) before after course = (course ≡ course_of_unread (unread fault)) × (after ≡ before)

-- What the octets are read as is begun. A report has this behind it.
abbrev pub BeginsRequest : {J : Type 0} → PlainDesk → Side → List ℕ → List ℕ → PlainFlight → PlainFlight → Course J → Type 0
BeginsRequest desk side octets behind before after course =
    (request : Result Request RequestFault) × IsAnswer octets request × IsBegunBy desk side behind request before after course

-- ---- whose payouts it is of

-- A peer whose payouts are to be paused, or to go on, is one of the configuration's.
abbrev pub IsOfKnownPeer : {J : Type 0} → Configuration → Course J → Type 0
IsOfKnownPeer C (Pause peer) = peer < length C.peers
IsOfKnownPeer C (Resume peer) = peer < length C.peers
IsOfKnownPeer C course = ⊤
