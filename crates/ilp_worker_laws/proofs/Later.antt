-- What a worker has seen of the journal begins what it sees later.
use Rattle.std.proofs.Common.{List, [], ◌∷◌, inl, inr, refl, sym, ap, subst}
use Rattle.std.specs.Prelude.{◌≡◌}
use mathlib.Core.List.{IsPrefix}
use Rattle.ilp_grown_list.proofs.Begins.{prefix_self, prefix_trans}
use Rattle.ilp_journal.specs.Journal.{Entries}
use Rattle.ilp_book.specs.Book.{PlainBook, Made, Does}
use Rattle.ilp_desk.specs.Desk.{PlainDesk}
use Rattle.ilp_desk.specs.Portion.{Portion}
use Rattle.ilp_desk.specs.Session.{IsShownAt}
use Rattle.ilp_desk.proofs.Sessions.{tells_more}
use Rattle.ilp_replies.specs.declared.rejects.LocalReject.{LocalReject}
use Rattle.ilp_workers.specs.declared.reply_effect.Told.{Told}
use Rattle.ilp_workers.specs.declared.reply_effect.Told.TheVariants.{Fulfill, Reject}
use Rattle.ilp_workers.specs.Worker.{PlainWorker, Seat, seat_of}
use Rattle.ilp_workers.specs.Forwarding.{Order, IsHoldRefusal, KeepsFirst}
use Rattle.ilp_worker_laws.specs.Runs.{Half, refused, begun, finished, booked, kept, IsHalf, Step, IsRun}

-- a session that is shown to the worker goes on from what it had seen
shown_goes_on : {R : Type 0} (desk : PlainDesk) (step : PlainBook → Made R) (seen shown : Entries) (before after : Portion) (reply : R) → IsShownAt desk step seen shown before after reply → IsPrefix seen shown
shown_goes_on desk step seen shown before after reply at =
    let does : Does at.0 at.1 reply (step at.0) = at.3 in
    subst (λ (j : Entries). IsPrefix seen j) (sym at.5) (prefix_trans seen at.0.entries at.1.entries at.4 (tells_more at.0.entries at.0 at.1 reply (step at.0) refl does))

-- the same journal begins itself
same_begins : (before after : Entries) → after ≡ before → IsPrefix before after
same_begins before after same = subst (λ (j : Entries). IsPrefix before j) (sym same) (prefix_self before)

refusal_goes_on : (o : Order) (before after : Seat) (why : LocalReject) → IsHoldRefusal o before after why → IsPrefix before.seen after.seen
refusal_goes_on o before after why is =
    elim is [
      | inl unkept ↦ same_begins before.seen after.seen unkept.seen
      | inr asked ↦
          elim asked [
            | inl denied ↦ same_begins before.seen after.seen denied.seen
            | inr by_book ↦ shown_goes_on o.desk _ before.seen after.seen before.share after.share _ by_book.refused
          ]
    ]

keeping_goes_on : (told : Told) (before after : Seat) → KeepsFirst told before after → IsPrefix before.seen after.seen
keeping_goes_on Fulfill before after is_kept = is_kept.1.handed.begins
keeping_goes_on (Reject r) before after same = same_begins before.seen after.seen (ap (λ (s : Seat). s.seen) same)

half_goes_on : (desk : PlainDesk) (half : Half) (before after : PlainWorker) → IsHalf desk half before after → IsPrefix before.seen after.seen
half_goes_on desk (refused o receipt) before after is = refusal_goes_on o (seat_of before) (seat_of after) is.why is.reason
half_goes_on desk (begun o p) before after is = shown_goes_on o.desk _ before.seen after.seen before.share after.share _ is.booked.booked
half_goes_on desk (finished p came receipt octets) before after is =
    prefix_trans before.seen is.0.left.seen after.seen (shown_goes_on desk _ before.seen is.0.left.seen before.share is.0.left.share _ is.0.ended.booked) (keeping_goes_on is.0.told is.0.left (seat_of after) is.0.kept_first)
half_goes_on desk (booked p came b) before after is = shown_goes_on desk _ before.seen after.seen before.share after.share _ is.0.ended.booked
half_goes_on desk (kept said) before after is = is.kept.handed.begins

pub run_goes_on : (desk : PlainDesk) (steps : List Step) (before after : PlainWorker) → IsRun desk steps before after → IsPrefix before.seen after.seen
run_goes_on desk [] before after same = same_begins before.seen after.seen (ap (λ (w : PlainWorker). w.seen) same)
run_goes_on desk (step ∷ steps) before after is =
    prefix_trans before.seen step.after.seen after.seen (half_goes_on desk step.half before step.after is.0) (run_goes_on desk steps step.after after is.1)
