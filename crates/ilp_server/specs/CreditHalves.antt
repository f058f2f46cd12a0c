-- A settlement or a correction in two halves: it is booked, and answered behind the journal that has its entry.
use Rattle.std.specs.Prelude.{◌≡◌, ◌⊎◌, ℕ, List, length, codes, Result, Ok, Err, ⊤}
use Rattle.http_header.specs.FieldValue.{FieldValue}
use Rattle.http_header.specs.HeaderMap.{Entries}
use Rattle.ilp_settlement.specs.declared.quantity.Quantity.{Quantity}
use Rattle.ilp_settlement.specs.declared.quantity.QuantityFault.{QuantityFault}
use Rattle.ilp_settlement.specs.Quantity.{quantity_in}
use Rattle.ilp_settlement.specs.declared.correction.CorrectionFault.{CorrectionFault}
use Rattle.ilp_settlement.specs.Correction.{PlainCorrection, correction_in}
use Rattle.ilp_journal.specs.declared.credit_kind.CreditKind.TheVariants.{Settled}
use Rattle.ilp_book.specs.declared.calls.Kept.{Kept}
use Rattle.ilp_book.specs.declared.fault.CreditFault.{CreditFault}
use Rattle.ilp_book.specs.SettleStep.{payment}
use Rattle.ilp_desk.specs.Desk.{PlainDesk}
use Rattle.ilp_keeping.specs.declared.keeper.NotKept.{NotKept}
use Rattle.ilp_workers.specs.declared.crediting.NotCredited.{NotCredited}
use Rattle.ilp_workers.specs.declared.crediting.NotCredited.TheVariants as not_credited
use Rattle.ilp_workers.specs.Worker.{PlainWorker}
use Rattle.ilp_workers.specs.Crediting.{PlainBookedCredit, BooksCredit}
use Rattle.ilp_workers.specs.Halves.{IsHandedOn}
use Rattle.ilp_server.specs.declared.unserved.NotServed.{NotServed}
use Rattle.ilp_server.specs.declared.unserved.NotServed.TheVariants as unserved
use Rattle.ilp_server.specs.declared.served.Served.{Served}
use Rattle.ilp_server.specs.declared.pending_credit.CreditCourse.{CreditCourse}
use Rattle.ilp_server.specs.declared.pending_credit.CreditCourse.TheVariants.{Waits, Over}
use Rattle.ilp_server.specs.Fields.{values_in, IsKeyAmong}
use Rattle.ilp_server.specs.Corrections.{kind_of}
use Rattle.ilp_server.specs.Serving.{IsNoQuantity, IsCreditOutcome, IsNoCorrection, IsCorrectionOutcome}
use Rattle.ilp_server.specs.Response.{NeedsNoWorker}
use Rattle.ilp_server.specs.PendingCredits.{PlainPendingCredit, kept_outcome, unkept_outcome, outcome_of}

-- ---- the first half

-- It is not served for this reason, and the worker is as it was.
abbrev pub IsOverFor : {J : Type 0} → NotServed → PlainWorker → PlainWorker → CreditCourse J → Type 0
IsOverFor why before after course = (course ≡ Over (Err why)) × (after ≡ before)

-- By what the outcome is of each answer of a worker: one that is booked waits, and has that outcome whether the keeper keeps the journal or
-- not; one that is refused is over with it.
abbrev pub IsCourseFor : {J : Type 0} → (Result Kept NotCredited → Result Served NotServed → Type 0) → Result PlainBookedCredit CreditFault → CreditCourse J → Type 0
IsCourseFor IsOutcome (Ok b) course =
    (c : PlainPendingCredit) × (course ≡ Waits c) × (c.booked ≡ b)
    × IsOutcome (Ok b.credit) (kept_outcome c) × IsOutcome (Err (not_credited.NotKept b.credit)) (unkept_outcome c)
IsCourseFor IsOutcome (Err fault) course =
    (outcome : Result Served NotServed) × (course ≡ Over outcome) × IsOutcome (Err (not_credited.Refused fault)) outcome

-- A quantity under a key: there is no memory for its answer; or it is booked or refused.
abbrev pub BeginsQuantity : {J : Type 0} → PlainDesk → ℕ → List ℕ → Quantity → PlainWorker → PlainWorker → CreditCourse J → Type 0
BeginsQuantity desk peer key quantity before after course =
    IsOverFor unserved.Memory before after course
    ⊎ ((half : Result PlainBookedCredit CreditFault)
    × BooksCredit desk (payment peer key quantity Settled) before after half × IsCourseFor (IsCreditOutcome desk peer quantity) half course)

-- A body under a key: what is no quantity is turned away.
abbrev pub BeginsPayment : {J : Type 0} → PlainDesk → ℕ → List ℕ → List ℕ → PlainWorker → PlainWorker → CreditCourse J → Type 0
BeginsPayment desk peer key body before after course =
    ((fault : QuantityFault) × IsNoQuantity body fault × IsOverFor (unserved.Quantity fault) before after course)
    ⊎ ((quantity : Quantity) × (quantity_in body ≡ Ok quantity) × BeginsQuantity desk peer key quantity before after course)

-- A settlement of a peer: without a key it is turned away.
abbrev pub BeginsSettlement : {J : Type 0} → PlainDesk → ℕ → Entries FieldValue → List ℕ → PlainWorker → PlainWorker → CreditCourse J → Type 0
BeginsSettlement desk peer headers body before after course =
    let given = values_in headers (codes "idempotency-key") in
    (((key : List ℕ) → ¬ (IsKeyAmong given key)) × IsOverFor unserved.NoKey before after course)
    ⊎ ((key : List ℕ) × IsKeyAmong given key × BeginsPayment desk peer key body before after course)

-- A correction under a key: there is no memory for its answer, its key or its reason; or it is booked or refused.
abbrev pub BeginsChange : {J : Type 0} → PlainDesk → ℕ → List ℕ → PlainCorrection → PlainWorker → PlainWorker → CreditCourse J → Type 0
BeginsChange desk peer key c before after course =
    IsOverFor unserved.Memory before after course
    ⊎ ((half : Result PlainBookedCredit CreditFault)
    × BooksCredit desk (payment peer key c.quantity (kind_of c)) before after half × IsCourseFor (IsCorrectionOutcome desk peer c) half course)

-- A body under a key: what is no correction is turned away.
abbrev pub BeginsCorrectionBody : {J : Type 0} → PlainDesk → ℕ → List ℕ → List ℕ → PlainWorker → PlainWorker → CreditCourse J → Type 0
BeginsCorrectionBody desk peer key body before after course =
    ((fault : CorrectionFault) × IsNoCorrection body fault × IsOverFor (unserved.Correction fault) before after course)
    ⊎ ((c : PlainCorrection) × (correction_in body ≡ Ok c) × BeginsChange desk peer key c before after course)

-- A correction of the balance of a peer: without a key it is turned away.
abbrev pub BeginsCorrection : {J : Type 0} → PlainDesk → ℕ → Entries FieldValue → List ℕ → PlainWorker → PlainWorker → CreditCourse J → Type 0
BeginsCorrection desk peer headers body before after course =
    let given = values_in headers (codes "idempotency-key") in
    (((key : List ℕ) → ¬ (IsKeyAmong given key)) × IsOverFor unserved.NoKey before after course)
    ⊎ ((key : List ℕ) × IsKeyAmong given key × BeginsCorrectionBody desk peer key body before after course)

-- ---- the second half

-- One that waits has the outcome that the keeper's word gives it, which is handed the journal that the worker has seen.
abbrev pub IsEndedAs : {J : Type 0} → CreditCourse J → PlainWorker → PlainWorker → Result Served NotServed → Type 0
IsEndedAs (Waits c) before after outcome = (said : Result (Unit {0}) NotKept) × IsHandedOn said before after × (outcome ≡ outcome_of c said)
IsEndedAs (Over done) before after outcome = (outcome ≡ done) × (after ≡ before)

-- What is over has no octets of a worker's.
abbrev pub NeedsNone : {J : Type 0} → CreditCourse J → Type 0
NeedsNone (Waits c) = ⊤
NeedsNone (Over done) = NeedsNoWorker done

-- What waits does so for no more than the worker has seen.
abbrev pub IsBehindSeen : {J : Type 0} → PlainWorker → CreditCourse J → Type 0
IsBehindSeen worker (Waits c) = c.booked.behind ≡ length worker.seen
IsBehindSeen worker (Over done) = ⊤
