-- Both halves of a settlement or a correction are one that is served whole.
use Rattle.std.proofs.Common.{◌≡◌, ℕ, List, inl, inr, refl, sym, ap, ◌∙◌, subst}
use Rattle.std.specs.Prelude.{Result, Ok, Err}
use Rattle.http_header.specs.FieldValue.{FieldValue}
use Rattle.http_header.specs.HeaderMap.{Entries}
use Rattle.ilp_settlement.specs.declared.quantity.Quantity.{Quantity}
use Rattle.ilp_oer.specs.Octets.{OctetsWithRoom}
use Rattle.ilp_settlement.specs.Quantity.{quantity_text}
use Rattle.ilp_settlement.specs.Correction.{PlainCorrection}
use Rattle.ilp_journal.specs.declared.credit_kind.CreditKind.TheVariants.{Settled}
use Rattle.ilp_book.specs.declared.calls.Kept.{Kept}
use Rattle.ilp_book.specs.declared.fault.CreditFault.{CreditFault}
use Rattle.ilp_book.specs.Configured.{scale_at}
use Rattle.ilp_book.specs.SettleStep.{Payment, payment}
use Rattle.ilp_desk.specs.Desk.{PlainDesk}
use Rattle.ilp_keeping.specs.declared.keeper.NotKept.{NotKept}
use Rattle.ilp_workers.specs.declared.crediting.NotCredited.{NotCredited}
use Rattle.ilp_workers.specs.declared.crediting.NotCredited.TheVariants as not_credited
use Rattle.ilp_workers.specs.Worker.{PlainWorker, seat_of}
use Rattle.ilp_workers.specs.Crediting.{PlainBookedCredit, answer_kept, BooksCredit, Credits}
use Rattle.ilp_workers.specs.Halves.{IsHandedOn}
use Rattle.ilp_server.specs.declared.unserved.NotServed.{NotServed}
use Rattle.ilp_server.specs.declared.unserved.NotServed.TheVariants as unserved
use Rattle.ilp_server.specs.declared.served.Served.{Served}
use Rattle.ilp_server.specs.declared.pending_credit.CreditCourse.{CreditCourse}
use Rattle.ilp_server.specs.declared.pending_credit.CreditCourse.TheVariants.{Waits, Over}
use Rattle.ilp_server.specs.declared.handled.ToldChange.{ToldChange}
use Rattle.ilp_server.specs.declared.handled.ToldChange.TheVariants.{Settlement}
use Rattle.ilp_server.specs.Corrections.{kind_of, change_of, moved_by, change_text}
use Rattle.ilp_server.specs.Serving.{IsTurnedAway, IsCreditOutcome, ServesPayment, ServesSettlement, IsCorrectionOutcome, ServesCorrectionBody, ServesCorrection}
use Rattle.ilp_server.specs.PendingCredits.{PlainPendingCredit, pending_credit, kept_outcome, unkept_outcome, outcome_of}
use Rattle.ilp_server.specs.CreditHalves.{IsOverFor, IsCourseFor, BeginsPayment, BeginsSettlement, BeginsCorrectionBody, BeginsCorrection, IsEndedAs}

-- ---- a worker's halves

-- what is booked, and then kept or not, is a credit
paid : (desk : PlainDesk) (p : Payment) (before left after : PlainWorker) (b : PlainBookedCredit) (said : Result (Unit {0}) NotKept)
    → BooksCredit desk p before left (Ok b) → IsHandedOn said left after → Credits desk p before after (answer_kept b.credit said)
paid desk p before left after b said books handed = record {
  paid = record { reply = Ok b.credit; left = seat_of left; told = books.told; answered = (said, handed.kept, refl) };
  links = (handed.links.0 ∙ books.links.0, handed.links.1 ∙ books.links.1);
  reply_stays = handed.reply_stays ∙ books.reply_stays;
}

-- and so is what is refused
unpaid : (desk : PlainDesk) (p : Payment) (before left : PlainWorker) (fault : CreditFault)
    → BooksCredit desk p before left (Err fault) → Credits desk p before left (Err (not_credited.Refused fault))
unpaid desk p before left fault books = record {
  paid = record { reply = Err fault; left = seat_of left; told = books.told; answered = (refl, refl) };
  links = books.links;
  reply_stays = books.reply_stays;
}

-- ---- the outcome

-- a worker's answer to a credit, and the outcome that is so of it
abbrev Comes : (Result Kept NotCredited → Result Served NotServed → Type 0) → PlainDesk → Payment → PlainWorker → PlainWorker → Result Served NotServed → Type 0
Comes IsOutcome desk p before after outcome = (credit : Result Kept NotCredited) × Credits desk p before after credit × IsOutcome credit outcome

of_word : (IsOutcome : Result Kept NotCredited → Result Served NotServed → Type 0) (desk : PlainDesk) (p : Payment) (before left after : PlainWorker)
    (b : PlainBookedCredit) (c : PlainPendingCredit) (said : Result (Unit {0}) NotKept) (outcome : Result Served NotServed)
    → BooksCredit desk p before left (Ok b) → IsHandedOn said left after → IsOutcome (Ok b.credit) (kept_outcome c)
    → IsOutcome (Err (not_credited.NotKept b.credit)) (unkept_outcome c) → outcome ≡ outcome_of c said → Comes IsOutcome desk p before after outcome
of_word IsOutcome desk p before left after b c (Ok x) outcome books handed kept unkept is =
    (Ok b.credit, paid desk p before left after b (Ok x) books handed, subst (IsOutcome (Ok b.credit)) (sym is) kept)
of_word IsOutcome desk p before left after b c (Err fault) outcome books handed kept unkept is =
    (Err (not_credited.NotKept b.credit), paid desk p before left after b (Err fault) books handed, subst (IsOutcome (Err (not_credited.NotKept b.credit))) (sym is) unkept)

comes : {J : Type 0} (IsOutcome : Result Kept NotCredited → Result Served NotServed → Type 0) (desk : PlainDesk) (p : Payment) (before left after : PlainWorker)
    (half : Result PlainBookedCredit CreditFault) (course : CreditCourse J) (outcome : Result Served NotServed)
    → BooksCredit desk p before left half → IsCourseFor IsOutcome half course → IsEndedAs course left after outcome → Comes IsOutcome desk p before after outcome
comes {J} IsOutcome desk p before left after (Ok b) course outcome books goes ended =
    let c = goes.0 in
    let ends : IsEndedAs {J = J} (Waits c) left after outcome = subst (λ (x : CreditCourse J). IsEndedAs x left after outcome) goes.1 ended in
    of_word IsOutcome desk p before left after b c ends.0 outcome books ends.1 goes.3 goes.4 ends.2
comes {J} IsOutcome desk p before left after (Err fault) course outcome books goes ended =
    let ends : IsEndedAs {J = J} (Over goes.0) left after outcome = subst (λ (x : CreditCourse J). IsEndedAs x left after outcome) goes.1 ended in
    let refused = Err (not_credited.Refused fault) in
    (refused, subst (λ (w : PlainWorker). Credits desk p before w refused) (sym ends.1) (unpaid desk p before left fault books), subst (IsOutcome refused) (sym ends.0) goes.2)

over : {J : Type 0} (why : NotServed) (before left after : PlainWorker) (course : CreditCourse J) (outcome : Result Served NotServed)
    → IsOverFor why before left course → IsEndedAs course left after outcome → IsTurnedAway why before after outcome
over {J} why before left after course outcome away ended =
    let ends : IsEndedAs {J = J} (Over (Err why)) left after outcome = subst (λ (x : CreditCourse J). IsEndedAs x left after outcome) away.0 ended in
    (ends.0, ends.1 ∙ away.1)

-- ---- settlements

whole_payment : {J : Type 0} (desk : PlainDesk) (peer : ℕ) (key body : List ℕ) (before left after : PlainWorker) (course : CreditCourse J) (outcome : Result Served NotServed)
    → BeginsPayment desk peer key body before left course → IsEndedAs course left after outcome → ServesPayment desk peer key body before after outcome
whole_payment desk peer key body before left after course outcome begun ended = elim begun [
  | inl none ↦ inl (none.0, none.1, over (unserved.Quantity none.0) before left after course outcome none.2 ended)
  | inr some ↦ inr (
    some.0,
    some.1,
    elim some.2 [
      | inl short ↦ inl (over unserved.Memory before left after course outcome short ended)
      | inr half ↦ inr (comes (IsCreditOutcome desk peer some.0) desk (payment peer key some.0 Settled) before left after half.0 course outcome half.1 half.2 ended)
    ],
  )
]

pub whole_settlement : {J : Type 0} (desk : PlainDesk) (peer : ℕ) (headers : Entries FieldValue) (body : List ℕ) (before left after : PlainWorker) (course : CreditCourse J) (outcome : Result Served NotServed)
    → BeginsSettlement desk peer headers body before left course → IsEndedAs course left after outcome → ServesSettlement desk peer headers body before after outcome
whole_settlement desk peer headers body before left after course outcome begun ended = elim begun [
  | inl none ↦ inl (none.0, over unserved.NoKey before left after course outcome none.1 ended)
  | inr some ↦ inr (some.0, some.1, whole_payment desk peer some.0 body before left after course outcome some.2 ended)
]

-- ---- corrections

whole_body : {J : Type 0} (desk : PlainDesk) (peer : ℕ) (key body : List ℕ) (before left after : PlainWorker) (course : CreditCourse J) (outcome : Result Served NotServed)
    → BeginsCorrectionBody desk peer key body before left course → IsEndedAs course left after outcome → ServesCorrectionBody desk peer key body before after outcome
whole_body desk peer key body before left after course outcome begun ended = elim begun [
  | inl none ↦ inl (none.0, none.1, over (unserved.Correction none.0) before left after course outcome none.2 ended)
  | inr some ↦ inr (
    some.0,
    some.1,
    elim some.2 [
      | inl short ↦ inl (over unserved.Memory before left after course outcome short ended)
      | inr half ↦ inr (comes (IsCorrectionOutcome desk peer some.0) desk (payment peer key some.0.quantity (kind_of some.0)) before left after half.0 course outcome half.1 half.2 ended)
    ],
  )
]

pub whole_correction : {J : Type 0} (desk : PlainDesk) (peer : ℕ) (headers : Entries FieldValue) (body : List ℕ) (before left after : PlainWorker) (course : CreditCourse J) (outcome : Result Served NotServed)
    → BeginsCorrection desk peer headers body before left course → IsEndedAs course left after outcome → ServesCorrection desk peer headers body before after outcome
whole_correction desk peer headers body before left after course outcome begun ended = elim begun [
  | inl none ↦ inl (none.0, over unserved.NoKey before left after course outcome none.1 ended)
  | inr some ↦ inr (some.0, some.1, whole_body desk peer some.0 body before left after course outcome some.2 ended)
]

-- ---- what waits

-- it is how one goes on
abbrev as_course : {J : Type 0} → PlainPendingCredit → CreditCourse J
as_course p = Waits p

-- a settlement that is booked waits with its answer
pub waits_for_payment : {J : Type 0} (desk : PlainDesk) (peer : ℕ) (quantity : Quantity) (half : Result PlainBookedCredit CreditFault) (b : PlainBookedCredit) (text : OctetsWithRoom) (p : PlainPendingCredit) (course : CreditCourse J)
    → half ≡ Ok b → text.octets ≡ quantity_text b.credit.amount (scale_at desk.config peer) → p ≡ pending_credit b peer (Settlement quantity) text → course ≡ Waits p
    → IsCourseFor (IsCreditOutcome desk peer quantity) half course
waits_for_payment {J} desk peer quantity half b text p course is written same waits =
    subst (λ (h : Result PlainBookedCredit CreditFault). IsCourseFor (IsCreditOutcome desk peer quantity) h course) (sym is)
    (pending_credit b peer (Settlement quantity) text, waits ∙ ap (λ (x : PlainPendingCredit). as_course {J = J} x) same, refl, (text, refl, written), refl)

-- and so does a correction
pub waits_for_change : {J : Type 0} (desk : PlainDesk) (peer : ℕ) (c : PlainCorrection) (half : Result PlainBookedCredit CreditFault) (b : PlainBookedCredit) (told : ToldChange) (text : OctetsWithRoom) (p : PlainPendingCredit) (course : CreditCourse J)
    → half ≡ Ok b → told ≡ change_of c → text.octets ≡ change_text (moved_by c.lowers b.credit.amount) (scale_at desk.config peer) → p ≡ pending_credit b peer told text → course ≡ Waits p
    → IsCourseFor (IsCorrectionOutcome desk peer c) half course
waits_for_change {J} desk peer c half b told text p course is change written same waits =
    subst (λ (h : Result PlainBookedCredit CreditFault). IsCourseFor (IsCorrectionOutcome desk peer c) h course) (sym is)
    (pending_credit b peer told text, waits ∙ ap (λ (x : PlainPendingCredit). as_course {J = J} x) same, refl, (text, refl, written), ap (λ t. Err (unserved.Credit peer t (not_credited.NotKept b.credit))) change)
