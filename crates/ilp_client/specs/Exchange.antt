-- A request that is sent, and what comes back for it.
use Rattle.std.specs.Prelude.{◌≢◌, ℕ, List, ⊤, Result, Ok, Err, Option}
use Rattle.std.specs.Io.KnownBytes.{Appends}
use Rattle.ilp_io.specs.Writing.{AppendsProperPrefix}
use Rattle.ilp_http.specs.Response.{IsResponse}
use Rattle.ilp_http.specs.ResponseAnswer.{IsResponseFault, AnswersInTime}
use Rattle.ilp_http.specs.ResponseAnswer as response
use Rattle.ilp_http.specs.declared.response.Response.{Response}
use Rattle.ilp_http.specs.declared.response.ResponseFault.TheVariants.{Failed}
use Rattle.ilp_client.specs.declared.exchange.PostFault.{PostFault}
use Rattle.ilp_client.specs.declared.exchange.PostFault.TheVariants.{Unsent, Unanswered}

-- The octets were written: all of them, or where the request is unsent not all.
abbrev pub IsRequestWritten : {T : Type 0} → Option (List ℕ) → Option (List ℕ) → List ℕ → Result T PostFault → Type 0
IsRequestWritten old new octets (Ok came) = Appends old new octets
IsRequestWritten old new octets (Err Unsent) = AppendsProperPrefix old new octets
IsRequestWritten old new octets (Err (Unanswered fault)) = Appends old new octets

-- the response that the input begins with, or why there is none
abbrev pub IsResponseRead : List ℕ → Result Response PostFault → Type 0
IsResponseRead input (Ok came) = IsResponse input came.status came.body.now
IsResponseRead input (Err Unsent) = ⊤
IsResponseRead input (Err (Unanswered fault)) = IsResponseFault input fault

-- The response was read in time. Where a read failed, or the request is unsent, nothing is said.
abbrev pub IsReadInTime : {S : Type 0} → (S → List ℕ → S → Type 0) → S → S → Result Response PostFault → Type 0
IsReadInTime pulled old new (Ok came) = AnswersInTime pulled old new (Ok came)
IsReadInTime pulled old new (Err Unsent) = ⊤
IsReadInTime pulled old new (Err (Unanswered fault)) = fault ≢ Failed → AnswersInTime pulled old new (Err fault)

-- how many writes failed
abbrev pub failed_writes : {T : Type 0} → Result T PostFault → ℕ
failed_writes (Ok came) = 0
failed_writes (Err Unsent) = 1
failed_writes (Err (Unanswered fault)) = 0

-- how many reads failed
abbrev pub failed_reads : {T : Type 0} → Result T PostFault → ℕ
failed_reads (Ok came) = 0
failed_reads (Err Unsent) = 0
failed_reads {T} (Err (Unanswered fault)) = response.failed_reads {T = T} (Err fault)
