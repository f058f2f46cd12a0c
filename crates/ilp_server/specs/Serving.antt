-- What a request that was read is answered, and what a worker made of it.
use Rattle.std.specs.Prelude.{◌≡◌, ℕ, ◌⊎◌, List, [], ◌++◌, codes, unwrap_or, Some, Result, Ok, Err}
use Rattle.http_header.specs.FieldValue.{FieldValue}
use Rattle.http_header.specs.HeaderMap.{Entries}
use Rattle.ilp_http.specs.declared.status.Status.{Status}
use Rattle.ilp_http.specs.declared.status.Status.TheVariants as status
use Rattle.ilp_http.specs.declared.status.Kind.{Kind}
use Rattle.ilp_http.specs.declared.status.Kind.TheVariants as kind
use Rattle.ilp_oer.specs.Octets.{OctetsWithRoom}
use Rattle.ilp_settlement.specs.declared.quantity.Quantity.{Quantity}
use Rattle.ilp_settlement.specs.declared.quantity.QuantityFault.{QuantityFault}
use Rattle.ilp_settlement.specs.declared.quantity.QuantityFault.TheVariants as quantity_fault
use Rattle.ilp_settlement.specs.Quantity.{quantity_in, quantity_text}
use Rattle.ilp_settlement.specs.declared.correction.CorrectionFault.{CorrectionFault}
use Rattle.ilp_settlement.specs.declared.correction.CorrectionFault.TheVariants as correction_fault
use Rattle.ilp_settlement.specs.Correction.{PlainCorrection, correction_in}
use Rattle.ilp_journal.specs.declared.credit_kind.CreditKind.TheVariants.{Settled}
use Rattle.ilp_book.specs.declared.calls.Kept.{Kept}
use Rattle.ilp_book.specs.declared.fault.CreditFault.TheVariants as credit_fault
use Rattle.ilp_book.specs.Configured.{scale_at}
use Rattle.ilp_book.specs.SettleStep.{payment}
use Rattle.ilp_book.specs.Book.{PlainBook}
use Rattle.ilp_report.specs.Report.{report_text}
use Rattle.ilp_desk.specs.Desk.{PlainDesk, IsBookOf}
use Rattle.ilp_workers.specs.declared.crediting.NotCredited.{NotCredited}
use Rattle.ilp_workers.specs.declared.crediting.NotCredited.TheVariants as not_credited
use Rattle.ilp_workers.specs.declared.arrivals.BadPacket.{BadPacket}
use Rattle.ilp_replies.specs.declared.answer.Receipt.{Receipt}
use Rattle.ilp_replies.specs.declared.messages.MessageFault.{MessageFault}
use Rattle.ilp_workers.specs.Worker.{PlainWorker}
use Rattle.ilp_workers.specs.Arrivals.{arrival, Forwards}
use Rattle.ilp_workers.specs.Crediting.{Credits}
use Rattle.ilp_replies.specs.Messages.{peer_answer_of}
use Rattle.ilp_workers.specs.Messaging.{Messages}
use Rattle.ilp_server.specs.declared.target.Side.{Side}
use Rattle.ilp_server.specs.declared.target.Target.{Target}
use Rattle.ilp_server.specs.declared.target.Target.TheVariants as target
use Rattle.ilp_server.specs.declared.unserved.NotServed.{NotServed}
use Rattle.ilp_server.specs.declared.unserved.NotServed.TheVariants as unserved
use Rattle.ilp_server.specs.declared.served.Served.{Served}
use Rattle.ilp_server.specs.declared.served.Served.TheVariants.{Packet, Booked, BelowLeast, Message, Report, Close}
use Rattle.ilp_server.specs.declared.handled.ToldChange.TheVariants.{Settlement}
use Rattle.ilp_server.specs.Targets.{AsksFor}
use Rattle.ilp_server.specs.Fields.{values_in, IsFrom, IsKeyAmong}
use Rattle.ilp_server.specs.Statuses.{status_of}
use Rattle.ilp_server.specs.Corrections.{kind_of, change_of, moved_by, change_text, least_text}

-- ---- what comes

-- a request that was read at a side of the server
pub record Inquiry : Type 0 where
  pub side : Side
  pub path : List ℕ
  pub headers : Entries FieldValue
  pub body : List ℕ

abbrev pub inquiry : Side → List ℕ → Entries FieldValue → List ℕ → Inquiry
inquiry side path headers body = record { side = side; path = path; headers = headers; body = body }

-- ---- what it is answered

-- a response: its status, and its body with what kind of one that is
pub record Reply : Type 0 where
  pub status : Status
  pub kind : Kind
  pub body : List ℕ

abbrev pub reply : Status → Kind → List ℕ → Reply
reply status kind body = record { status = status; kind = kind; body = body }

-- a status and no body
abbrev pub bare : Status → Reply
bare s = reply s kind.Text []

-- The response to what became of a request: the octets by which a worker answers the packet, what the balance was moved by, or why it
-- was not corrected, what the peer's engine answered, the report, or nothing but a status.
abbrev pub reply_to : PlainWorker → Result Served NotServed → Reply
reply_to worker (Ok (Packet peer rejected)) = reply status.Ok kind.OctetStream worker.reply
reply_to worker (Ok (Booked peer kept text)) = reply status.Created kind.Json text.octets
reply_to worker (Ok (BelowLeast text)) = reply status.Forbidden kind.Json text.octets
reply_to worker (Ok Message) = reply status.Created kind.OctetStream (unwrap_or (peer_answer_of (Some worker.reply)) [])
reply_to worker (Ok (Report text)) = reply status.Ok kind.Text text.items
reply_to worker (Ok Close) = bare status.Ok
reply_to worker (Err why) = bare (status_of why)

-- ---- what becomes of it

-- It is not served for this reason, and the worker is as it was.
abbrev pub IsTurnedAway : NotServed → PlainWorker → PlainWorker → Result Served NotServed → Type 0
IsTurnedAway why before after outcome = (outcome ≡ Err why) × (after ≡ before)

-- the outcome for a packet that was forwarded, or was none
abbrev pub packet_outcome : ℕ → Result Receipt BadPacket → Result Served NotServed
packet_outcome peer (Ok receipt) = Ok (Packet peer receipt.rejected)
packet_outcome peer (Err fault) = Err (unserved.Packet fault)

-- A packet: without a token of a peer it is turned away; else the body is forwarded, as the packet of the peer whose token it is.
abbrev pub ServesPacket : PlainDesk → Entries FieldValue → List ℕ → PlainWorker → PlainWorker → Result Served NotServed → Type 0
ServesPacket desk headers body before after outcome =
    let shown = values_in headers (codes "authorization") in
    (((peer : ℕ) → ¬ (IsFrom desk.config shown peer)) × IsTurnedAway unserved.UnknownSender before after outcome)
    ⊎ ((peer : ℕ) × IsFrom desk.config shown peer × (receipt : Result Receipt BadPacket)
    × Forwards (arrival desk peer body) before after receipt × (outcome ≡ packet_outcome peer receipt))

-- Why a body is no quantity: memory to read it was denied, or this is its first fault.
abbrev pub IsNoQuantity : List ℕ → QuantityFault → Type 0
IsNoQuantity body fault = (fault ≡ quantity_fault.Memory) ⊎ (quantity_in body ≡ Err fault)

-- the outcome of a payment that is credited, which answers the amount that is kept under its key, at the scale of the peer's
-- balance; or that is refused, or is not kept
abbrev pub IsCreditOutcome : PlainDesk → ℕ → Quantity → Result Kept NotCredited → Result Served NotServed → Type 0
IsCreditOutcome desk peer quantity (Ok kept) outcome =
    (text : OctetsWithRoom) × (outcome ≡ Ok (Booked peer kept text)) × (text.octets ≡ quantity_text kept.amount (scale_at desk.config peer))
IsCreditOutcome desk peer quantity (Err fault) outcome = outcome ≡ Err (unserved.Credit peer (Settlement quantity) fault)

-- A quantity under a key: there is no memory for its answer; or it is credited, with its outcome.
abbrev pub ServesQuantity : PlainDesk → ℕ → List ℕ → Quantity → PlainWorker → PlainWorker → Result Served NotServed → Type 0
ServesQuantity desk peer key quantity before after outcome =
    IsTurnedAway unserved.Memory before after outcome
    ⊎ ((credit : Result Kept NotCredited) × Credits desk (payment peer key quantity Settled) before after credit × IsCreditOutcome desk peer quantity credit outcome)

-- A body under a key: what is no quantity is turned away.
abbrev pub ServesPayment : PlainDesk → ℕ → List ℕ → List ℕ → PlainWorker → PlainWorker → Result Served NotServed → Type 0
ServesPayment desk peer key body before after outcome =
    ((fault : QuantityFault) × IsNoQuantity body fault × IsTurnedAway (unserved.Quantity fault) before after outcome)
    ⊎ ((quantity : Quantity) × (quantity_in body ≡ Ok quantity) × ServesQuantity desk peer key quantity before after outcome)

-- A settlement of a peer: without a key it is turned away.
abbrev pub ServesSettlement : PlainDesk → ℕ → Entries FieldValue → List ℕ → PlainWorker → PlainWorker → Result Served NotServed → Type 0
ServesSettlement desk peer headers body before after outcome =
    let given = values_in headers (codes "idempotency-key") in
    (((key : List ℕ) → ¬ (IsKeyAmong given key)) × IsTurnedAway unserved.NoKey before after outcome)
    ⊎ ((key : List ℕ) × IsKeyAmong given key × ServesPayment desk peer key body before after outcome)

-- Why a body is no correction: memory to read it was denied, or this is its first fault.
abbrev pub IsNoCorrection : List ℕ → CorrectionFault → Type 0
IsNoCorrection body fault = (fault ≡ correction_fault.Memory) ⊎ (correction_in body ≡ Err fault)

-- The outcome of a correction that is booked, which answers what the amount kept under its key moved the balance by; of one by which the
-- balance would fall below its least, which answers both; or of one that is refused otherwise, or is not kept. Units are those of the scale
-- of the peer's balance.
abbrev pub IsCorrectionOutcome : PlainDesk → ℕ → PlainCorrection → Result Kept NotCredited → Result Served NotServed → Type 0
IsCorrectionOutcome desk peer c (Ok kept) outcome =
    (text : OctetsWithRoom) × (outcome ≡ Ok (Booked peer kept text))
    × (text.octets ≡ change_text (moved_by c.lowers kept.amount) (scale_at desk.config peer))
IsCorrectionOutcome desk peer c (Err (not_credited.Refused (credit_fault.BelowLeast balance least))) outcome =
    (text : OctetsWithRoom) × (outcome ≡ Ok (BelowLeast text)) × (text.octets ≡ least_text balance least (scale_at desk.config peer))
IsCorrectionOutcome desk peer c (Err fault) outcome = outcome ≡ Err (unserved.Credit peer (change_of c) fault)

-- A correction under a key: there is no memory for its answer, its key or its reason; or it is booked as one, with its outcome.
abbrev pub ServesChange : PlainDesk → ℕ → List ℕ → PlainCorrection → PlainWorker → PlainWorker → Result Served NotServed → Type 0
ServesChange desk peer key c before after outcome =
    IsTurnedAway unserved.Memory before after outcome
    ⊎ ((credit : Result Kept NotCredited) × Credits desk (payment peer key c.quantity (kind_of c)) before after credit × IsCorrectionOutcome desk peer c credit outcome)

-- A body under a key: what is no correction is turned away.
abbrev pub ServesCorrectionBody : PlainDesk → ℕ → List ℕ → List ℕ → PlainWorker → PlainWorker → Result Served NotServed → Type 0
ServesCorrectionBody desk peer key body before after outcome =
    ((fault : CorrectionFault) × IsNoCorrection body fault × IsTurnedAway (unserved.Correction fault) before after outcome)
    ⊎ ((c : PlainCorrection) × (correction_in body ≡ Ok c) × ServesChange desk peer key c before after outcome)

-- A correction of the balance of a peer: without a key it is turned away.
abbrev pub ServesCorrection : PlainDesk → ℕ → Entries FieldValue → List ℕ → PlainWorker → PlainWorker → Result Served NotServed → Type 0
ServesCorrection desk peer headers body before after outcome =
    let given = values_in headers (codes "idempotency-key") in
    (((key : List ℕ) → ¬ (IsKeyAmong given key)) × IsTurnedAway unserved.NoKey before after outcome)
    ⊎ ((key : List ℕ) × IsKeyAmong given key × ServesCorrectionBody desk peer key body before after outcome)

-- the outcome for a message that was answered, or was not
abbrev pub message_outcome : Result (Unit {0}) MessageFault → Result Served NotServed
message_outcome (Ok x) = Ok Message
message_outcome (Err fault) = Err (unserved.Message fault)

-- A message of the engine of a peer: the body is sent to that peer.
abbrev pub ServesMessage : PlainDesk → ℕ → List ℕ → PlainWorker → PlainWorker → Result Served NotServed → Type 0
ServesMessage desk peer body before after outcome =
    (sent : Result (Unit {0}) MessageFault) × Messages desk.config peer body before after sent × (outcome ≡ message_outcome sent)

-- A report with this behind it: that of some book of the desk; or there is no memory for it.
abbrev pub TellsReport : PlainDesk → List ℕ → Result Served NotServed → Type 0
TellsReport desk behind (Ok (Report text)) = (book : PlainBook) × IsBookOf desk book × (text.items ≡ report_text book ++ behind)
TellsReport desk behind (Ok other) = ⊥
TellsReport desk behind (Err why) = why ≡ unserved.Memory

-- A report: that of some book of the desk; or there is no memory for it.
abbrev pub ServesReport : PlainDesk → Result Served NotServed → Type 0
ServesReport desk (Ok (Report text)) = (book : PlainBook) × IsBookOf desk book × (text.items ≡ report_text book)
ServesReport desk (Ok other) = ⊥
ServesReport desk (Err why) = why ≡ unserved.Memory

-- by what the request asks for
abbrev pub ServesTarget : PlainDesk → Inquiry → Target → PlainWorker → PlainWorker → Result Served NotServed → Type 0
ServesTarget desk i target.Packet before after outcome = ServesPacket desk i.headers i.body before after outcome
ServesTarget desk i (target.Settlement peer) before after outcome = ServesSettlement desk peer i.headers i.body before after outcome
ServesTarget desk i (target.Correction peer) before after outcome = ServesCorrection desk peer i.headers i.body before after outcome
ServesTarget desk i (target.Message peer) before after outcome = ServesMessage desk peer i.body before after outcome
ServesTarget desk i target.Report before after outcome = ServesReport desk outcome × (after ≡ before)
ServesTarget desk i target.Close before after outcome = (outcome ≡ Ok Close) × (after ≡ before)
ServesTarget desk i target.Reload before after outcome = IsTurnedAway unserved.NewPeriod before after outcome
ServesTarget desk i (target.Pause peer) before after outcome = IsTurnedAway unserved.NewPeriod before after outcome
ServesTarget desk i (target.Resume peer) before after outcome = IsTurnedAway unserved.NewPeriod before after outcome

-- What asks for nothing is turned away, whatever else it has.
abbrev pub Serves : PlainDesk → Inquiry → PlainWorker → PlainWorker → Result Served NotServed → Type 0
Serves desk i before after outcome =
    (((t : Target) → ¬ (AsksFor desk.config i.side i.path t)) × IsTurnedAway unserved.UnknownTarget before after outcome)
    ⊎ ((t : Target) × AsksFor desk.config i.side i.path t × ServesTarget desk i t before after outcome)
