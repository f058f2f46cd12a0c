-- What a worker learns of its sessions: how many entries each booked, and what a hold that was accepted is.
use Rattle.std.proofs.Common.{◌≡◌, ℕ, ◌+◌, ℤ, pos, ◌+ℤ◌, Option, sym, ap, ◌∙◌, subst, arith}
use Rattle.std.specs.Prelude.{Result, Ok, Err, ◌≤ℤ◌, int_le, false}
use Rattle.std.specs.Int.{int_min}
use Rattle.std.proofs.lemmas.Int.{ints, clamps}
use Rattle.ilp_journal.specs.Journal.{Entries}
use Rattle.ilp_book.specs.declared.calls.Held.{Held}
use Rattle.ilp_book.specs.declared.calls.Outcome.{Outcome}
use Rattle.ilp_book.specs.declared.calls.PeerReply.{PeerReply}
use Rattle.ilp_book.specs.declared.fault.HoldFault.{HoldFault}
use Rattle.ilp_book.specs.declared.fault.NotOpen.{NotOpen}
use Rattle.ilp_book.specs.Book.{PlainBook, by, Growth, Does, moment_at}
use Rattle.ilp_book.specs.HoldStep.{incoming, hold_step, growth_of, latest_answer}
use Rattle.ilp_book.specs.AnswerStep.{answer_step}
use Rattle.ilp_book.proofs.HoldSteps.{TermsFacts, Accepts, accepted, refusal_books_nothing}
use Rattle.ilp_book.proofs.AnswerSteps.{outcome_books_one, not_open_books_nothing}
use Rattle.ilp_desk.specs.Desk.{IsBookOf}
use Rattle.ilp_desk.specs.Portion.{Portion, portion}
use Rattle.ilp_desk.proofs.Raising.{raised_by, one_more, no_more, raised_by_none}
use Rattle.ilp_workers.specs.declared.reply_effect.ReplyEffect.{ReplyEffect}
use Rattle.ilp_workers.specs.declared.reply_effect.Told.{Told}
use Rattle.ilp_link_traits.specs.Links.{Tells}
use Rattle.ilp_workers.specs.Worker.{Seat}
use Rattle.ilp_replies.specs.Messages.{within_years}
use Rattle.ilp_workers.specs.Forwarding.{Order, IsHeldAt, IsAnsweredAt, IsOnItsWay, entry_of, count_of, Ends, IsEnded}

-- ---- how many entries were booked

-- a hold that is accepted is one entry
pub held_raises : (o : Order) (now : ℤ) (seen seen' : Entries) (before after : Portion) (held : Held) → IsHeldAt o now seen seen' before after (Ok held) → after ≡ portion before.actor (before.entries + 1)
held_raises o now seen seen' before after held at =
    let old = at.0 in
    let caller = by before.actor now in
    let sent = incoming old.config o.from o.packet in
    let made = hold_step old caller sent (growth_of (Ok held)) in
    let does : Does old at.1 (Ok held) made = at.3 in
    raised_by o.desk old at.1 before after 1 at.2
    (one_more old at.1 (Ok held) made _ does (accepted old caller sent (growth_of (Ok held)) held (sym does.reply)).entry)

-- a hold that is refused is none
pub refused_raises_none : (o : Order) (now : ℤ) (seen seen' : Entries) (before after : Portion) (fault : HoldFault) → IsHeldAt o now seen seen' before after (Err fault) → after ≡ before
refused_raises_none o now seen seen' before after fault at =
    let old = at.0 in
    let caller = by before.actor now in
    let sent = incoming old.config o.from o.packet in
    let growth = growth_of (Err fault) in
    let made = hold_step old caller sent growth in
    let does : Does old at.1 (Err fault) made = at.3 in
    raised_by_none before after (raised_by o.desk old at.1 before after 0 at.2
    (no_more old at.1 (Err fault) made does (refusal_books_nothing old caller sent growth fault (sym does.reply))))

-- an answer is one entry where it has an outcome, else none
pub answered_raises : (o : Order) (now : ℤ) (hold : ℕ) (answer : PeerReply) (seen seen' : Entries) (before after : Portion) (reply : Result Outcome NotOpen) → IsAnsweredAt o now hold answer seen seen' before after reply
    → after ≡ portion before.actor (before.entries + count_of (entry_of reply))
answered_raises o now hold answer seen seen' before after (Ok told) at =
    let old = at.0 in
    let caller = by before.actor now in
    let made = answer_step old caller hold answer in
    let does : Does old at.1 (Ok told) made = at.3 in
    let one = outcome_books_one old caller hold answer told (sym does.reply) in
    raised_by o.desk old at.1 before after 1 at.2 (one_more old at.1 (Ok told) made one.0 does one.1)
answered_raises o now hold answer seen seen' before after (Err fault) at =
    let old = at.0 in
    let caller = by before.actor now in
    let made = answer_step old caller hold answer in
    let does : Does old at.1 (Err fault) made = at.3 in
    raised_by o.desk old at.1 before after 0 at.2 (no_more old at.1 (Err fault) made does (not_open_books_nothing old caller hold answer fault (sym does.reply)))

-- ---- what a hold that was accepted is

-- a deadline that leaves time lies within its bounds
record WithinBounds (latest m cut deadline : ℤ) (longest : ℕ) : Type 0 where
  begins : pos 0 ≤ℤ deadline
  latest_is : deadline ≤ℤ latest
  soonest : int_min latest (cut +ℤ pos longest) ≤ℤ deadline

bounds : (latest m cut : ℤ) (longest : ℕ) → int_le latest m ≡ false → pos 0 ≤ℤ m → cut ≤ℤ m → WithinBounds latest m cut (int_min latest (m +ℤ pos longest)) longest
bounds latest m cut longest in_time first after = record {
  begins = omega (arith, ints, clamps);
  latest_is = omega (arith, ints, clamps);
  soonest = omega (arith, ints, clamps);
}

-- a step accepts a Prepare on these terms
on_its_way : (o : Order) (book : PlainBook) (actor : ℕ) (now : ℤ) (growth : Growth) (held : Held) → IsBookOf o.desk book → (hold_step book (by actor now) (incoming book.config o.from o.packet) growth).reply ≡ Ok held
    → IsOnItsWay o now held
on_its_way o book actor now growth held of_desk replied =
    let C = o.desk.config in
    let m = moment_at book.entries now in
    let a : Accepts book (by actor now) (incoming book.config o.from o.packet) _ held = accepted book (by actor now) (incoming book.config o.from o.packet) growth held replied in
    let t : TermsFacts C m (incoming C o.from o.packet) a.hold = subst (λ X. TermsFacts X m (incoming X o.from o.packet) a.hold) of_desk.config a.terms in
    let first : pos 0 ≤ℤ m = omega (arith, ints, clamps) in
    let after : within_years now ≤ℤ m = omega (arith, ints, clamps) in
    let b = bounds (latest_answer C o.packet) m (within_years now) C.settings.max_hold_ms t.in_time first after in
    subst (IsOnItsWay o now) (sym a.told) (record {
      routed = t.routed;
      quoted = (t.terms.0, t.terms.1, t.terms.3);
      begins = subst (λ d. pos 0 ≤ℤ d) (sym t.deadline) b.begins;
      latest = subst (λ d. d ≤ℤ latest_answer C o.packet) (sym t.deadline) b.latest_is;
      soonest = subst (λ d. int_min (latest_answer C o.packet) (within_years now +ℤ pos C.settings.max_hold_ms) ≤ℤ d) (sym t.deadline) b.soonest;
    })

pub held_on_its_way : (o : Order) (now : ℤ) (seen seen' : Entries) (before after : Portion) (held : Held) → IsHeldAt o now seen seen' before after (Ok held) → IsOnItsWay o now held
held_on_its_way o now seen seen' before after held at =
    let does : Does at.0 at.1 (Ok held) (hold_step at.0 (by before.actor now) (incoming at.0.config o.from o.packet) (growth_of (Ok held))) = at.3 in
    on_its_way o at.0 before.actor now (growth_of (Ok held)) held at.2.found (sym does.reply)

-- ---- what was told to a book

-- what came back was told to a book, and how the hold ended follows from its reply
pub ended_by : (o : Order) (held : Held) (c : ReplyEffect) (before after : Seat) (told : Told) (entry : Option ℕ) (later : ℤ) (reply : Result Outcome NotOpen)
    → Tells before.moments later after.moments → IsAnsweredAt o later held.number c.answer before.seen after.seen before.share after.share reply → entry_of reply ≡ entry
    → Ends o held c reply before.records after.records told → after.kept ≡ before.kept → IsEnded o held c before after told entry
ended_by o held c before after told entry later reply asked at is ends unkept = record {
  later = later;
  reply = reply;
  asked = asked;
  booked = at;
  entry_is = is;
  raised = answered_raises o later held.number c.answer before.seen after.seen before.share after.share reply at ∙ ap (λ e. portion before.share.actor (before.share.entries + count_of e)) is;
  ends = ends;
  unkept = unkept;
}
