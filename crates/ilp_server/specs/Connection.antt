-- What becomes of a connection: what was read of it, what the worker made of that, and what was written.
use Rattle.std.specs.Prelude.{◌≡◌, ◌≢◌, ℕ, List, Option, Result, Ok, Err, IfSome, IfOk, IsErrOf}
use Rattle.std.specs.Io.KnownBytes.{Appends}
use Rattle.ilp_io.specs.Counts.{Tally, Tallies, TalliesUpTo, CountsUp}
use Rattle.ilp_io.specs.Writing.{AppendsProperPrefix}
use Rattle.ilp_http.specs.Limits.{most_reads}
use Rattle.ilp_http.specs.Writing.{response_text}
use Rattle.ilp_http.specs.Answer.{IsAnswer, HasPartsOf, AnswersInTime, failed_reads}
use Rattle.ilp_http.specs.declared.status.Status.{Status}
use Rattle.ilp_http.specs.declared.refusal.RequestFault.{RequestFault}
use Rattle.ilp_http.specs.declared.refusal.RequestFault.TheVariants as request_fault
use Rattle.ilp_http.specs.declared.request.Request.{Request}
use Rattle.ilp_desk.specs.Desk.{PlainDesk}
use Rattle.ilp_workers.specs.Worker.{PlainWorker}
use Rattle.ilp_server.specs.declared.target.Side.{Side}
use Rattle.ilp_server.specs.declared.unserved.NotServed.{NotServed}
use Rattle.ilp_server.specs.declared.served.Served.{Served}
use Rattle.ilp_server.specs.declared.served.Served.TheVariants as served
use Rattle.ilp_server.specs.declared.handled.ConnectionFault.{ConnectionFault}
use Rattle.ilp_server.specs.declared.handled.ConnectionFault.TheVariants as connection_fault
use Rattle.ilp_server.specs.declared.handled.Deed.{Deed}
use Rattle.ilp_server.specs.declared.handled.Deed.TheVariants.{Nothing}
use Rattle.ilp_server.specs.declared.handled.Handled.{Handled}
use Rattle.ilp_server.specs.declared.handled.Handled.TheVariants.{Done, Close, Fault}
use Rattle.ilp_server.specs.Statuses.{unread}
use Rattle.ilp_server.specs.Deeds.{deed_of}
use Rattle.ilp_server.specs.Serving.{Reply, reply_to, inquiry, Serves}

-- ---- what is served

-- What was read is served, or turned away by the refusal of the reading; or there is nothing to answer, and the worker is as it was.
abbrev pub IsOutcome : PlainDesk → Side → Result Request RequestFault → PlainWorker → PlainWorker → Result (Result Served NotServed) ConnectionFault → Type 0
IsOutcome desk side (Ok request) before after (Ok outcome) =
    Serves desk (inquiry side request.path.now request.headers request.body.now) before after outcome
IsOutcome desk side (Ok request) before after (Err fault) = ⊥
IsOutcome desk side (Err fault) before after (Ok outcome) = (why : NotServed) × (unread fault ≡ Ok why) × (outcome ≡ Err why) × (after ≡ before)
IsOutcome desk side (Err fault) before after (Err none) = (unread fault ≡ Err none) × (after ≡ before)

-- ---- what is written

-- the octets of a response
unfoldable pub response_octets : Reply → List ℕ
response_octets reply = response_text reply.status reply.kind reply.body

-- The response was written whole, and its status is told; or a write failed before its end. In either case it is told what was done.
abbrev pub IsSentWith : Reply → Deed → Option (List ℕ) → Option (List ℕ) → Handled → Type 0
IsSentWith reply done old new (Fault fault deed) =
    (fault ≡ connection_fault.Write) × AppendsProperPrefix old new (response_octets reply) × (deed ≡ done)
IsSentWith reply done old new handled = Appends old new (response_octets reply) × (handled ≡ Done reply.status done)

-- what is told of a response that was written whole: a close, or its status and what was done
abbrev pub told_of : Result Served NotServed → Status → Handled
told_of (Ok served.Close) status = Close
told_of outcome status = Done status (deed_of outcome)

-- The response was written whole, and this is told of it; or a write failed before its end, and it is told what was done.
abbrev pub IsWritten : PlainWorker → Result Served NotServed → Option (List ℕ) → Option (List ℕ) → Handled → Type 0
IsWritten worker outcome old new (Fault fault deed) =
    (fault ≡ connection_fault.Write) × AppendsProperPrefix old new (response_octets (reply_to worker outcome)) × (deed ≡ deed_of outcome)
IsWritten worker outcome old new handled =
    Appends old new (response_octets (reply_to worker outcome)) × (handled ≡ told_of outcome (reply_to worker outcome).status)

-- Where there is nothing to answer nothing is written, and nothing was done.
abbrev pub IsHandled : PlainWorker → Result (Result Served NotServed) ConnectionFault → Option (List ℕ) → Option (List ℕ) → Handled → Type 0
IsHandled worker (Ok outcome) old new handled = IsWritten worker outcome old new handled
IsHandled worker (Err fault) old new handled = (handled ≡ Fault fault Nothing) × (new ≡ old)

-- how many writes failed
abbrev pub failed_writes_of : Handled → ℕ
failed_writes_of (Fault connection_fault.Write deed) = 1
failed_writes_of handled = 0

-- ---- a connection

-- what is known of a connection, where it tells: the octets that are still to be read and how often was read, and the octets that were
-- written and how often a write failed
pub record Wire : Type 0 where
  pub input : Option (List ℕ)
  pub reads : Option Tally
  pub output : Option (List ℕ)
  pub failures : Option ℕ

abbrev pub wire : Option (List ℕ) → Option Tally → Option (List ℕ) → Option ℕ → Wire
wire input reads output failures = record { input = input; reads = reads; output = output; failures = failures }

-- One request is read of a connection, in time, a worker serves it, and one response is written. Where a read failed, it is not said that it was in time.
pub record Answers {S : Type 0} (pulled : S → List ℕ → S → Type 0) (start end : S) (desk : PlainDesk) (side : Side) (old new : Wire) (before after : PlainWorker) (handled : Handled) : Type 0 where
  pub request : Result Request RequestFault
  pub read : IfSome old.input (λ octets. IsAnswer octets request)
  pub begun : IfOk request (λ found. (octets : List ℕ) × HasPartsOf octets found)
  pub timely : request ≢ Err request_fault.Failed → AnswersInTime pulled start end request
  pub counted : TalliesUpTo old.reads new.reads most_reads (failed_reads request)
  pub patient : IsErrOf request request_fault.TooManyReads → Tallies old.reads new.reads most_reads 0
  pub outcome : Result (Result Served NotServed) ConnectionFault
  pub served : IsOutcome desk side request before after outcome
  pub told : IsHandled after outcome old.output new.output handled
  pub failed : CountsUp old.failures new.failures (failed_writes_of handled)
