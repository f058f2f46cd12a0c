-- What a packet that waited comes to, put together from how its hold ended and what its sender is answered.
use Rattle.std.proofs.Common.{◌≡◌, ℕ, List, Option, Some, None, ◌⊎◌, inl, inr, refl, ap, ◌∙◌, subst}
use Rattle.std.specs.Prelude.{Result, Ok, Err, length}
use Rattle.ilp_accounts.specs.Configuration.{Configuration}
use Rattle.ilp_book.specs.declared.calls.Held.{Held}
use Rattle.ilp_book.specs.declared.calls.Outcome.{Outcome}
use Rattle.ilp_book.specs.declared.fault.NotOpen.{NotOpen}
use Rattle.ilp_desk.specs.declared.record.Record.{Record}
use Rattle.ilp_desk.specs.Desk.{PlainDesk}
use Rattle.ilp_link_traits.specs.declared.links.LinkFault.{LinkFault}
use Rattle.ilp_link_traits.specs.Links.{came_of}
use Rattle.ilp_replies.specs.declared.rejects.ToldReject.{ToldReject}
use Rattle.ilp_replies.specs.declared.rejects.ToldReject.TheVariants.{Own, Peer}
use Rattle.ilp_replies.specs.declared.answer.Receipt.{Receipt}
use Rattle.ilp_workers.specs.declared.reply_effect.ReplyEffect.{ReplyEffect}
use Rattle.ilp_workers.specs.declared.reply_effect.Told.{Told}
use Rattle.ilp_workers.specs.declared.reply_effect.Told.TheVariants.{Fulfill, Reject}
use Rattle.ilp_workers.specs.declared.in_flight.HeldPrepare.{HeldPrepare}
use Rattle.ilp_workers.specs.Worker.{PlainWorker, seat_of}
use Rattle.ilp_workers.specs.Forwarding.{Order, IsEnded, KeepsFirst, IsTold, Ends, late, reject_told, effect_of}
use Rattle.ilp_workers.specs.Pending.{PlainPending, waiting, told_order}
use Rattle.ilp_workers.specs.Booked.{PlainBooked, booked, behind_of}
use Rattle.ilp_workers.specs.Halves.{IsBooked, IsKeptFor, IsFinished}

-- ---- what the sender is told

-- either what the reply comes to, or that time ran out
abbrev IsToldBy : ReplyEffect → Told → Type 0
IsToldBy c told = (told ≡ c.told) ⊎ (told ≡ late)

told_by_end : (o : Order) (held : Held) (c : ReplyEffect) (reply : Result Outcome NotOpen) (kept kept' : List Record) (told : Told) → Ends o held c reply kept kept' told → IsToldBy c told
told_by_end o held c (Err fault) kept kept' told ends = inr ends.0
told_by_end o held c (Ok outcome) kept kept' told ends = elim ends [ inl in_time ↦ inl in_time.1.0 | inr over ↦ inr over.1.0 ]

-- no reply is passed on where none came
no_fulfill : (condition : List ℕ) → IsToldBy (effect_of condition None) Fulfill → ⊥
no_fulfill condition told = elim told [ inl e ↦ cc | inr e ↦ cc ]

no_reject : (condition code : List ℕ) → IsToldBy (effect_of condition None) (Reject (Peer code)) → ⊥
no_reject condition code told = elim told [ inl e ↦ cc | inr e ↦ cc ]

-- what is passed on is what came
passed_came : (C : Configuration) (condition : List ℕ) (brought : Result (Unit {0}) LinkFault) (reply : List ℕ) (told : Told) (octets : List ℕ)
    → IsToldBy (effect_of condition (came_of brought reply)) told → IsTold C (Some reply) told octets → IsTold C (came_of brought reply) told octets
passed_came C condition (Ok x) reply told octets by is = is
passed_came C condition (Err fault) reply Fulfill octets by is = absurd (no_fulfill condition by)
passed_came C condition (Err fault) reply (Reject (Peer code)) octets by is = absurd (no_reject condition code by)
passed_came C condition (Err fault) reply (Reject (Own why)) octets by is = is

-- ---- booking

-- what became of the Prepare of a hold
abbrev pub receipt_of : HeldPrepare → Option ℕ → Option ToldReject → Receipt
receipt_of h entry rejected = record { hold = Some h.held.number; answer = entry; rejected = rejected }

-- a hold that ended, and what its sender is answered
pub booked_by : (desk : PlainDesk) (h : HeldPrepare) (actor : ℕ) (packet : List ℕ) (came : Option (List ℕ)) (brought : Result (Unit {0}) LinkFault) (reply : List ℕ) (before after : PlainWorker)
    (told : Told) (entry : Option ℕ) (rejected : Option ToldReject) (octets : List ℕ) (behind : ℕ)
    → came_of brought reply ≡ came → IsEnded (told_order desk h) h.held (effect_of h.condition (came_of brought reply)) (seat_of before) (seat_of after) told entry
    → after.sent ≡ before.sent → after.engine ≡ before.engine → after.reply ≡ before.reply
    → IsTold desk.config (Some reply) told octets → rejected ≡ reject_told told → behind ≡ behind_of rejected (length after.seen)
    → IsBooked desk (waiting actor h packet) came before after (booked (receipt_of h entry rejected) octets behind)
booked_by desk h actor packet came brought reply before after told entry rejected octets behind brings ended sent engine stays is_told named behind_is =
    let by = told_by_end (told_order desk h) h.held (effect_of h.condition (came_of brought reply)) ended.reply before.records after.records told ended.ends in
    record {
      told = told;
      hold = refl;
      ended = subst (λ c. IsEnded (told_order desk h) h.held (effect_of h.condition c) (seat_of before) (seat_of after) told entry) brings ended;
      links = (sent, engine);
      reply = subst (λ c. IsTold desk.config c told octets) brings (passed_came desk.config h.condition brought reply told octets by is_told);
      named = named;
      behind = behind_is;
      reply_stays = stays;
    }

-- ---- keeping

-- what is kept before the sender is told, and what stays meanwhile
record IsAfterKeeping (told : Told) (left after : PlainWorker) : Type 0 where
  first : KeepsFirst told (seat_of left) (seat_of after)
  links : (after.sent ≡ left.sent) × (after.engine ≡ left.engine)
  reply_stays : after.reply ≡ left.reply

after_keeping : (told : Told) (rejected : Option ToldReject) (left after : PlainWorker) → rejected ≡ reject_told told → IsKeptFor rejected left after → IsAfterKeeping told left after
after_keeping Fulfill None left after named kept = record { first = (kept.0, kept.1.kept); links = kept.1.links; reply_stays = kept.1.reply_stays }
after_keeping Fulfill (Some r) left after named kept = absurd cc
after_keeping (Reject q) None left after named kept = absurd cc
after_keeping (Reject q) (Some r) left after named same =
    record { first = ap seat_of same; links = (ap (λ (w : PlainWorker). w.sent) same, ap (λ (w : PlainWorker). w.engine) same); reply_stays = ap (λ (w : PlainWorker). w.reply) same }

-- what was booked, and kept where a Fulfill is owed, was finished
pub finished_by : (desk : PlainDesk) (p : PlainPending) (came : Option (List ℕ)) (before left after : PlainWorker) (b : PlainBooked)
    → IsBooked desk p came before left b → IsKeptFor b.receipt.rejected left after → IsFinished desk p came before after b.receipt b.octets
finished_by desk p came before left after b books kept =
    let then = after_keeping books.told b.receipt.rejected left after books.named kept in
    record {
      told = books.told;
      hold = books.hold;
      left = seat_of left;
      ended = books.ended;
      kept_first = then.first;
      links = (then.links.0 ∙ books.links.0, then.links.1 ∙ books.links.1);
      reply = books.reply;
      named = books.named;
      reply_stays = then.reply_stays ∙ books.reply_stays;
    }
