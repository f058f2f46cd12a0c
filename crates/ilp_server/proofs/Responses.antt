-- What is told of a response by how it was written.
use Rattle.std.proofs.Common.{◌≡◌, ℕ, List, Bool, Option, Some, None, refl, sym, ap, ◌∙◌, subst, arith}
use Rattle.std.specs.Prelude.{Result, Err}
use Rattle.ilp_http.specs.Writing.{response_text}
use Rattle.ilp_http.specs.declared.status.Kind.{Kind}
use Rattle.ilp_io.specs.Counts.{CountsUp}
use Rattle.ilp_http.specs.declared.status.Status.{Status}
use Rattle.ilp_http.specs.declared.refusal.RequestFault.{RequestFault}
use Rattle.ilp_http.specs.declared.refusal.RequestFault.TheVariants as request_fault
use Rattle.ilp_workers.specs.Worker.{PlainWorker}
use Rattle.ilp_server.specs.declared.unserved.NotServed.{NotServed}
use Rattle.ilp_server.specs.declared.served.Served.{Served}
use Rattle.ilp_server.specs.declared.handled.ConnectionFault.{ConnectionFault}
use Rattle.ilp_server.specs.declared.handled.ConnectionFault.TheVariants as connection_fault
use Rattle.ilp_server.specs.declared.handled.Deed.{Deed}
use Rattle.ilp_server.specs.declared.handled.Deed.TheVariants.{Nothing}
use Rattle.ilp_server.specs.declared.handled.Handled.{Handled}
use Rattle.ilp_server.specs.declared.handled.Handled.TheVariants.{Done, Close, Fault}
use Rattle.ilp_server.specs.declared.response.Body.{Body}
use Rattle.ilp_server.specs.Serving.{Reply, reply, reply_to}
use Rattle.ilp_server.specs.Response.{PlainResponse, response, octets_in}
use Rattle.ilp_server.specs.Statuses.{unread}
use Rattle.ilp_server.specs.Deeds.{deed_of}
use Rattle.ilp_server.specs.Connection.{response_octets, told_of, IsSentWith, IsWritten, failed_writes_of}

-- the octets of a response are those of its fields
pub octets_of_view : (status : Status) (kind : Kind) (body : Body) (deed : Deed) (closes : Bool) (r : PlainResponse) (octets : List ℕ)
    → octets ≡ octets_in body → response (reply status kind (octets_in body)) deed closes ≡ r → response_text status kind octets ≡ response_octets r.reply
unfolding response_octets
octets_of_view status kind body deed closes r octets same view =
    ap (response_text status kind) same ∙ ap (λ (x : PlainResponse). response_octets x.reply) view

-- a response to an outcome that asks for nothing more is told as it was sent
pub written_by : (worker : PlainWorker) (outcome done : Result Served NotServed) (old new : Option (List ℕ)) (handled : Handled) (r : Reply) (deed : Deed)
    → outcome ≡ done → r ≡ reply_to worker done → deed ≡ deed_of outcome → told_of done r.status ≡ Done r.status (deed_of done) → IsSentWith r deed old new handled → IsWritten worker outcome old new handled
written_by worker outcome done old new handled r deed is same deed_is told sent =
    subst (λ o. IsWritten worker o old new handled) (sym is)
    (of handled (subst (λ d. IsSentWith (reply_to worker done) d old new handled) (deed_is ∙ ap deed_of is) (subst (λ x. IsSentWith x deed old new handled) same sent)))
  where
    told' : told_of done (reply_to worker done).status ≡ Done (reply_to worker done).status (deed_of done)
    told' = subst (λ (x : Reply). told_of done x.status ≡ Done x.status (deed_of done)) same told

    of : (h : Handled) → IsSentWith (reply_to worker done) (deed_of done) old new h → IsWritten worker done old new h
    of (Done s d) sent = (sent.0, sent.1 ∙ sym told')
    of Close sent = (sent.0, sent.1 ∙ sym told')
    of (Fault fault d) sent = sent

-- where nothing is written no write fails
pub none_failed : (count : Option ℕ) → CountsUp count count 0
none_failed None = tt
none_failed (Some n) = omega arith

-- where nothing was read that is answered no write failed
pub none_failed_unread : (fault : RequestFault) (f : ConnectionFault) (count : Option ℕ) → unread fault ≡ Err f → CountsUp count count (failed_writes_of (Fault f Nothing))
none_failed_unread fault f count is = subst (CountsUp count count) (sym (none fault f is)) (none_failed count)
  where
    at : (done f : ConnectionFault) → failed_writes_of (Fault done Nothing) ≡ 0 → ◌≡◌ {A = Result NotServed ConnectionFault} (Err done) (Err f) → failed_writes_of (Fault f Nothing) ≡ 0
    at done f none e = let same : done ≡ f = cc in subst (λ x. failed_writes_of (Fault x Nothing) ≡ 0) same none

    none : (fault : RequestFault) (f : ConnectionFault) → unread fault ≡ Err f → failed_writes_of (Fault f Nothing) ≡ 0
    none (request_fault.Refused refusal) f is = absurd cc
    none request_fault.Failed f is = at connection_fault.Read f refl is
    none request_fault.TooManyReads f is = at connection_fault.Read f refl is
    none request_fault.Memory f is = at connection_fault.Memory f refl is
