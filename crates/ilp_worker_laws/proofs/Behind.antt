-- A Fulfill is told behind its entry.
use Rattle.std.proofs.Common.{◌≡◌, ℕ, zero, suc, ℤ, Bool, true, false, List, [], ◌∷◌, ◌++◌, length, Option, Some, None, option_and_then, slice_get, inl, inr, refl, sym, ap, ◌∙◌, subst, arith}
use Rattle.std.specs.Prelude.{Result, Ok, Err, is_some, if◌then◌else◌}
use mathlib.Core.List.{IsPrefix}
use Rattle.ilp_order.proofs.Sums.{slice_get-append}
use Rattle.ilp_terms.specs.Condition.{meets}
use Rattle.ilp_packet.specs.declared.fault.PacketFault.{PacketFault}
use Rattle.ilp_packet.specs.Packet.{PlainPacket, prepare, fulfill, reject}
use Rattle.ilp_packet.specs.Reading.{reading}
use Rattle.ilp_journal.specs.declared.entry.Entry.{Entry}
use Rattle.ilp_journal.specs.declared.entry.What.TheVariants as what
use Rattle.ilp_journal.specs.declared.entry.Cause.{Cause}
use Rattle.ilp_journal.specs.declared.entry.Cause.TheVariants as cause
use Rattle.ilp_journal.specs.declared.entry.Hold.{Hold}
use Rattle.ilp_journal.specs.Journal.{Entries, open_hold_at, fulfilled}
use Rattle.ilp_book.specs.declared.calls.Held.{Held}
use Rattle.ilp_book.specs.declared.calls.PeerReply.{PeerReply}
use Rattle.ilp_book.specs.declared.calls.PeerReply.TheVariants as peer_reply
use Rattle.ilp_book.specs.declared.calls.Outcome.{Outcome}
use Rattle.ilp_book.specs.declared.calls.Outcome.TheVariants as outcome
use Rattle.ilp_book.specs.declared.fault.NotOpen.{NotOpen}
use Rattle.ilp_book.specs.Book.{PlainBook, By, by, Does, entry_by, appended, with_entry, moment_at}
use Rattle.ilp_book.specs.AnswerStep.{judged_reply, ending, outcome_of, answer_booked, answer_step}
use Rattle.ilp_desk.specs.declared.record.HoldEnd.TheVariants.{Fulfilled, Released}
use Rattle.ilp_desk.specs.declared.record.Record.{Record}
use Rattle.ilp_desk.specs.Desk.{PlainDesk}
use Rattle.ilp_desk.specs.Portion.{Portion}
use Rattle.ilp_link_traits.specs.Links.{Tells}
use Rattle.ilp_keeping.specs.declared.keeper.NotKept.{NotKept}
use Rattle.ilp_keeping.specs.Keeping.{ToKeeper, keeping, kept}
use Rattle.ilp_replies.specs.declared.rejects.LocalReject.TheVariants as local
use Rattle.ilp_replies.specs.declared.rejects.ToldReject.TheVariants.{Own}
use Rattle.ilp_replies.specs.declared.answer.Receipt.{Receipt}
use Rattle.ilp_workers.specs.declared.reply_effect.Told.{Told}
use Rattle.ilp_workers.specs.declared.reply_effect.Told.TheVariants.{Fulfill, Reject}
use Rattle.ilp_workers.specs.Worker.{PlainWorker, Seat, seat_of}
use Rattle.ilp_workers.specs.Forwarding.{Order, order, IsAnsweredAt, IsEnded, KeepsFirst, Ends, entry_of, end_of, reject_told, effect, effect_of, effect_of_packet, IsSent, IsForwardedBy}
use Rattle.ilp_workers.specs.Arrivals.{Arrival, IsForPeers, Forwards}
use Rattle.ilp_workers.specs.Pending.{PlainPending, told_order}
use Rattle.ilp_workers.specs.Booked.{PlainBooked}
use Rattle.ilp_workers.specs.Halves.{IsBooked, IsHandedOn}
use Rattle.ilp_worker_laws.specs.Runs.{Step, IsRun}
use Rattle.ilp_worker_laws.specs.Outcome.{IsToldBehind}
use Rattle.ilp_worker_laws.proofs.Later.{run_goes_on}

-- the entry of this number fulfills the hold
abbrev Fulfills : Entries → ℕ → ℕ → Type 0
Fulfills j entry hold = option_and_then (λ (e : Entry). fulfilled e.what) (slice_get j entry) ≡ Some hold

-- ---- what a session leaves that ended a hold by a Fulfill

-- the last of a list
pub get_last : {X : Type 0} (xs : List X) (x : X) (k : ℕ) → k ≡ length xs → slice_get (xs ++ x ∷ []) k ≡ Some x
get_last [] x zero is = refl
get_last [] x (suc k) is = absurd (omega (arith, is))
get_last (y ∷ ys) x zero is = absurd (omega (arith, is))
get_last (y ∷ ys) x (suc k) is = get_last ys x k (omega (arith, is))

-- by how what came back for it is judged
of_judged : (old : PlainBook) (caller : By) (n entry : ℕ) (v : Result (List ℕ) Cause) → ◌≡◌ {A = Result Outcome NotOpen} (Ok (outcome.Fulfilled entry)) (Ok (outcome_of (length old.entries) v))
    → Fulfills (appended old.entries (Some (entry_by old caller (ending n v)))) entry n
of_judged old caller n entry (Ok preimage) same =
    ap (λ (o : Option Entry). option_and_then (λ (e : Entry). fulfilled e.what) o) (get_last old.entries (entry_by old caller (what.Fulfilled n preimage)) entry (cc))
of_judged old caller n entry (Err c) same = absurd cc

-- by the hold, if it is open
of_hold : (old : PlainBook) (caller : By) (n entry : ℕ) (reply : PeerReply) (o : Option Hold) → ◌≡◌ {A = Result Outcome NotOpen} (Ok (outcome.Fulfilled entry)) (answer_booked old caller n reply o).reply
    → Fulfills (appended old.entries (answer_booked old caller n reply o).entry) entry n
of_hold old caller n entry reply None same = absurd cc
of_hold old caller n entry reply (Some h) same = of_judged old caller n entry (judged_reply h (moment_at old.entries caller.now) reply) same

of_step : (old : PlainBook) (caller : By) (n entry : ℕ) (reply : PeerReply) → ◌≡◌ {A = Result Outcome NotOpen} (Ok (outcome.Fulfilled entry)) (answer_step old caller n reply).reply
    → Fulfills (with_entry old (answer_step old caller n reply).entry).entries entry n
unfolding answer_step
of_step old caller n entry reply same = of_hold old caller n entry reply (open_hold_at old.entries n) same

session_fulfills : (o : Order) (later : ℤ) (hold : ℕ) (answer : PeerReply) (seen left : Entries) (before after : Portion) (entry : ℕ)
    → IsAnsweredAt o later hold answer seen left before after (Ok (outcome.Fulfilled entry)) → Fulfills left entry hold
session_fulfills o later hold answer seen left before after entry at =
    let caller = by before.actor later in
    let does : Does at.0 at.1 (Ok (outcome.Fulfilled entry)) (answer_step at.0 caller hold answer) = at.3 in
    subst (λ (j : Entries). Fulfills j entry hold) (sym at.5)
    (subst (λ (b : PlainBook). Fulfills b.entries entry hold) (sym does.book) (of_step at.0 caller hold entry answer does.reply))

-- ---- what came

-- a Fulfill is told only where the hold is to end by one
fulfill_ends : (condition : List ℕ) (came : Option (List ℕ)) → Fulfill ≡ (effect_of condition came).told → (effect_of condition came).ended ≡ Fulfilled
fulfill_ends condition None e = absurd cc
fulfill_ends condition (Some octets) e = of (reading octets) e
  where
    met : (preimage : List ℕ) (b : Bool) → Fulfill ≡ (if b then effect (peer_reply.Fulfill preimage) Fulfilled Fulfill else effect peer_reply.BadFulfill (Released cause.WrongPreimage) (Reject (Own local.WrongCondition))).told
        → (if b then effect (peer_reply.Fulfill preimage) Fulfilled Fulfill else effect peer_reply.BadFulfill (Released cause.WrongPreimage) (Reject (Own local.WrongCondition))).ended ≡ Fulfilled
    met preimage true e = refl
    met preimage false e = absurd cc

    of : (r : Result PlainPacket PacketFault) → Fulfill ≡ (effect_of_packet condition r).told → (effect_of_packet condition r).ended ≡ Fulfilled
    of (Ok (prepare p)) e = absurd cc
    of (Ok (fulfill f)) e = met f.preimage (meets condition f.preimage) e
    of (Ok (reject r)) e = absurd cc
    of (Err fault) e = absurd cc

-- ---- how the hold ended

-- the book's reply says that it is fulfilled, by the entry that the receipt names
record IsByFulfill (reply : Result Outcome NotOpen) (answer : Option ℕ) : Type 0 where
  entry : ℕ
  answers : answer ≡ Some entry
  replied : reply ≡ Ok (outcome.Fulfilled entry)

by_outcome : (out : Outcome) (answer : Option ℕ) → (end_of out).1 ≡ Fulfilled → entry_of (Ok out) ≡ answer → IsByFulfill (Ok out) answer
by_outcome (outcome.Fulfilled entry) answer ended is = record { entry = entry; answers = sym is; replied = refl }
by_outcome (outcome.Released entry c) answer ended is = absurd cc

by_reply : (o : Order) (held : Held) (came : Option (List ℕ)) (told : Told) (reply : Result Outcome NotOpen) (records records' : List Record) (answer : Option ℕ)
    → Ends o held (effect_of o.packet.condition came) reply records records' told → entry_of reply ≡ answer → told ≡ Fulfill → IsByFulfill reply answer
by_reply o held came told reply records records' answer ends_so entry_is fulfilled_is = of reply ends_so entry_is
  where
    never : told ≡ Reject (Own local.TransferTimedOut) → ⊥
    never e = let two : Fulfill ≡ Reject (Own local.TransferTimedOut) = sym fulfilled_is ∙ e in absurd cc

    of : (reply : Result Outcome NotOpen) → Ends o held (effect_of o.packet.condition came) reply records records' told → entry_of reply ≡ answer → IsByFulfill reply answer
    of (Err fault) ends is = absurd (never ends.0)
    of (Ok out) ends is =
        elim ends [
          | inl counted ↦ by_outcome out answer (counted.0 ∙ fulfill_ends o.packet.condition came (sym fulfilled_is ∙ counted.1.0)) is
          | inr over ↦ absurd (never over.1.0)
        ]

-- so the journal that was left has the entry
record IsLeftBehind (hold : ℕ) (answer : Option ℕ) (left : Entries) : Type 0 where
  entry : ℕ
  answers : answer ≡ Some entry
  fulfills : Fulfills left entry hold

left_behind : (o : Order) (held : Held) (came : Option (List ℕ)) (told : Told) (before left : Seat) (answer : Option ℕ)
    → IsEnded o held (effect_of o.packet.condition came) before left told answer → told ≡ Fulfill → IsLeftBehind held.number answer left.seen
left_behind o held came told before left answer ended fulfilled_is =
    let c = effect_of o.packet.condition came in
    let by_entry = by_reply o held came told ended.reply before.records left.records answer ended.ends ended.entry_is fulfilled_is in
    let at : IsAnsweredAt o ended.later held.number c.answer before.seen left.seen before.share left.share (Ok (outcome.Fulfilled by_entry.entry)) =
    subst (λ r. IsAnsweredAt o ended.later held.number c.answer before.seen left.seen before.share left.share r) by_entry.replied ended.booked in
    record {
      entry = by_entry.entry;
      answers = by_entry.answers;
      fulfills = session_fulfills o ended.later held.number c.answer before.seen left.seen before.share left.share by_entry.entry at;
    }

-- ---- what was told

-- what was told last
pub told_last : (before : Option (List ToKeeper)) (after : List ToKeeper) (k : ToKeeper) → Tells before k (Some after) → (earlier : List ToKeeper) × (after ≡ earlier ++ k ∷ [])
told_last None after k is = absurd is
told_last (Some earlier) after k is = (earlier, is)

-- who is told no Reject is told a Fulfill
is_fulfill : (told : Told) → None ≡ reject_told told → told ≡ Fulfill
is_fulfill Fulfill e = refl
is_fulfill (Reject r) e = absurd cc

sent_behind : (o : Order) (before after : PlainWorker) (receipt : Receipt) (hold : ℕ) (told : List ToKeeper) → receipt.hold ≡ Some hold
    → IsSent o before after hold receipt.answer receipt.rejected → receipt.rejected ≡ None → after.kept ≡ Some told → IsToldBehind told receipt
sent_behind o before after receipt hold told holds sent unrejected tells =
    let fulfilled_is = is_fulfill sent.told (sym unrejected ∙ sent.named) in
    let there = left_behind o sent.held sent.came sent.told sent.between sent.left receipt.answer sent.ended fulfilled_is in
    let first : KeepsFirst Fulfill sent.left (seat_of after) = subst (λ t. KeepsFirst t sent.left (seat_of after)) fulfilled_is sent.kept_first in
    let handed : Tells sent.left.kept (kept (keeping sent.left.seen first.0)) (Some told) = subst (λ t. Tells sent.left.kept (kept (keeping sent.left.seen first.0)) t) tells first.1.handed.tells in
    let last = told_last sent.left.kept told (kept (keeping sent.left.seen first.0)) handed in
    record {
      earlier = last.0;
      journal = sent.left.seen;
      said = first.0;
      last = last.1;
      hold = sent.held.number;
      entry = there.entry;
      holds = holds ∙ ap Some (sym sent.number);
      answers = there.answers;
      fulfills = there.fulfills;
    }

-- ---- what was booked, and kept later

-- there is an entry of a number that fulfills a hold
stands : (o : Option Entry) (hold : ℕ) → option_and_then (λ (e : Entry). fulfilled e.what) o ≡ Some hold → is_some o ≡ true
stands None hold e = absurd cc
stands (Some x) hold e = refl

-- a journal that goes on has it too
fulfills_still : (j more : Entries) (entry hold : ℕ) → IsPrefix j more → Fulfills j entry hold → Fulfills more entry hold
fulfills_still j more entry hold begins there =
    let same = slice_get-append j begins.0 entry (stands (slice_get j entry) hold there) in
    subst (λ (l : Entries). Fulfills l entry hold) begins.1 (ap (λ (o : Option Entry). option_and_then (λ (e : Entry). fulfilled e.what) o) same ∙ there)

pub booked_behind : (desk : PlainDesk) (p : PlainPending) (came : Option (List ℕ)) (b : PlainBooked) (before left later after : PlainWorker) (steps : List Step) (said : Result (Unit {0}) NotKept) (told : List ToKeeper)
    → IsBooked desk p came before left b → IsRun desk steps left later → IsHandedOn said later after → b.receipt.rejected ≡ None → after.kept ≡ Some told → IsToldBehind told b.receipt
booked_behind desk p came b before left later after steps said told books run hands unrejected tells =
    let fulfilled_is = is_fulfill books.told (sym unrejected ∙ books.named) in
    let there = left_behind (told_order desk p.prepare) p.prepare.held came books.told (seat_of before) (seat_of left) b.receipt.answer books.ended fulfilled_is in
    let asked = kept (keeping later.seen said) in
    let handed : Tells later.kept asked (Some told) = subst (λ t. Tells later.kept asked t) tells hands.kept.handed.tells in
    let last = told_last later.kept told asked handed in
    record {
      earlier = last.0;
      journal = later.seen;
      said = said;
      last = last.1;
      hold = p.prepare.held.number;
      entry = there.entry;
      holds = books.hold;
      answers = there.answers;
      fulfills = fulfills_still left.seen later.seen there.entry p.prepare.held.number (run_goes_on desk steps left later run) there.fulfills;
    }

pub told_behind : (a : Arrival) (before after : PlainWorker) (receipt : Receipt) (told : List ToKeeper) → IsForPeers a → Forwards a before after (Ok receipt) → receipt.rejected ≡ None → after.kept ≡ Some told → IsToldBehind told receipt
told_behind a before after receipt told for_peers forwards unrejected tells =
    elim forwards.2 [ inl forwarded ↦ of receipt.hold receipt.answer refl refl forwarded.1 | inr messaged ↦ absurd (for_peers forwards.0 forwards.1 messaged.0) ]
  where
    o : Order
    o = order a.desk a.from forwards.0

    of : (hold answer : Option ℕ) → receipt.hold ≡ hold → receipt.answer ≡ answer → IsForwardedBy o before after hold answer receipt.rejected → IsToldBehind told receipt
    of None None holds answers refused = let two : None ≡ Some (Own refused.why) = sym unrejected ∙ refused.named in absurd cc
    of None (Some n) holds answers none = absurd none
    of (Some hold) answer holds answers sent =
        sent_behind o before after receipt hold told holds (subst (λ x. IsSent o before after hold x receipt.rejected) (sym answers) sent) unrejected tells
