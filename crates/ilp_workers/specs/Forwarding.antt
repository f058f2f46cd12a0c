-- What becomes of a Prepare that a worker forwards: what is booked, what the next peer is handed, and what the sender is answered.
use Rattle.std.specs.Prelude.{◌≡◌, ◌≢◌, ℕ, ◌+◌, ℤ, pos, ◌+ℤ◌, ◌≤ℤ◌, ◌⊎◌, List, [], ◌∷◌, ◌++◌, Option, Some, None, Bool, true, false, Result, Ok, Err, if◌then◌else◌}
use Rattle.std.specs.Int.{int_min}
use Rattle.ilp_terms.specs.Condition.{meets}
use Rattle.ilp_packet.specs.declared.fault.PacketFault.{PacketFault}
use Rattle.ilp_packet.specs.Packet.{PlainPacket, PlainPrepare, prepare, fulfill, reject, Spells}
use Rattle.ilp_packet.specs.Reading.{reading}
use Rattle.ilp_assets.specs.declared.quote.Quote.{Quote}
use Rattle.ilp_accounts.specs.Configuration.{Configuration}
use Rattle.ilp_journal.specs.declared.entry.Cause.TheVariants as cause
use Rattle.ilp_journal.specs.Journal.{Entries}
use Rattle.ilp_book.specs.declared.calls.Held.{Held}
use Rattle.ilp_book.specs.declared.calls.PeerReply.{PeerReply}
use Rattle.ilp_book.specs.declared.calls.PeerReply.TheVariants as peer_reply
use Rattle.ilp_book.specs.declared.calls.Outcome.{Outcome}
use Rattle.ilp_book.specs.declared.calls.Outcome.TheVariants as outcome
use Rattle.ilp_book.specs.declared.fault.HoldFault.{HoldFault}
use Rattle.ilp_book.specs.declared.fault.NotOpen.{NotOpen}
use Rattle.ilp_book.specs.Book.{by}
use Rattle.ilp_book.specs.Configured.{quote_between}
use Rattle.ilp_book.specs.HoldStep.{incoming, hold_step, growth_of, latest_answer}
use Rattle.ilp_book.specs.AnswerStep.{answer_step}
use Rattle.ilp_desk.specs.declared.record.Record.{Record}
use Rattle.ilp_desk.specs.declared.record.Recorded.TheVariants as recorded
use Rattle.ilp_desk.specs.declared.record.HoldEnd.{HoldEnd}
use Rattle.ilp_desk.specs.declared.record.HoldEnd.TheVariants.{Fulfilled, Released}
use Rattle.ilp_desk.specs.Desk.{PlainDesk}
use Rattle.ilp_desk.specs.Portion.{Portion, portion}
use Rattle.ilp_desk.specs.Session.{IsShownAt}
use Rattle.ilp_keeping.specs.declared.keeper.NotKept.{NotKept}
use Rattle.ilp_keeping.specs.Keeping as keeper
use Rattle.ilp_replies.specs.declared.rejects.LocalReject.{LocalReject}
use Rattle.ilp_replies.specs.declared.rejects.LocalReject.TheVariants as local
use Rattle.ilp_replies.specs.declared.rejects.ToldReject.{ToldReject}
use Rattle.ilp_replies.specs.declared.rejects.ToldReject.TheVariants.{Own, Peer}
use Rattle.ilp_workers.specs.declared.reply_effect.ReplyEffect.{ReplyEffect}
use Rattle.ilp_workers.specs.declared.reply_effect.Told.{Told}
use Rattle.ilp_workers.specs.declared.reply_effect.Told.TheVariants.{Fulfill, Reject}
use Rattle.ilp_link_traits.specs.declared.links.ReplyKind.{ReplyKind}
use Rattle.ilp_link_traits.specs.declared.links.ReplyKind.TheVariants.{Answer, NoAnswer}
use Rattle.ilp_link_traits.specs.Links.{Tells, Sending, sending}
use Rattle.ilp_replies.specs.Rejects.{local_reject, reject_of_fault}
use Rattle.ilp_replies.specs.Messages.{within_years}
use Rattle.ilp_workers.specs.Worker.{PlainWorker, Seat, seat_of, IsKept}

-- ---- what is forwarded

-- a Prepare of a peer
pub record Order : Type 0 where
  pub desk : PlainDesk
  pub from : ℕ
  pub packet : PlainPrepare

abbrev pub order : PlainDesk → ℕ → PlainPrepare → Order
order desk from packet = record { desk = desk; from = from; packet = packet }

-- ---- holding

-- A book of the desk was asked at a moment to hold the Prepare, and this was its reply. Before it the worker had seen a beginning of
-- that book's journal, and then all of it.
abbrev pub IsHeldAt : Order → ℤ → Entries → Entries → Portion → Portion → Result Held HoldFault → Type 0
IsHeldAt o now seen seen' before after reply =
    IsShownAt o.desk (λ book. hold_step book (by before.actor now) (incoming book.config o.from o.packet) (growth_of reply)) seen seen' before after reply

-- What is held goes to the peer of the destination's route, as much as the two peers' quote says. Its deadline leaves the window
-- before the Prepare expires, and comes no sooner than that or the longest hold from the moment on.
pub record IsOnItsWay (o : Order) (now : ℤ) (held : Held) : Type 0 where
  pub routed : (incoming o.desk.config o.from o.packet).route ≡ Some held.to
  pub quoted : (q : Quote) × (quote_between o.desk.config o.from held.to o.packet.amount ≡ Ok q) × (held.out ≡ q.out)
  pub begins : pos 0 ≤ℤ held.deadline
  pub latest : held.deadline ≤ℤ latest_answer o.desk.config o.packet
  pub soonest : int_min (latest_answer o.desk.config o.packet) (within_years now +ℤ pos o.desk.config.settings.max_hold_ms) ≤ℤ held.deadline

-- The keeper says that entries are kept, and a hold is booked at a moment that the clock gives.
pub record IsHolding (o : Order) (before after : Seat) (held : Held) : Type 0 where
  pub keeps : Tells before.kept (keeper.asked true) after.kept
  pub now : ℤ
  pub asked : Tells before.moments now after.moments
  pub booked : IsHeldAt o now before.seen after.seen before.share after.share (Ok held)
  pub raised : after.share ≡ portion before.share.actor (before.share.entries + 1)
  pub terms : IsOnItsWay o now held
  pub records : after.records ≡ before.records

-- No book was asked. The keeper was asked whether entries are kept, and said this; the Reject is T00.
pub record IsUnasked (said : Bool) (before after : Seat) (why : LocalReject) : Type 0 where
  pub keeps : Tells before.kept (keeper.asked said) after.kept
  pub moments : after.moments ≡ before.moments
  pub seen : after.seen ≡ before.seen
  pub named : why ≡ local.InternalError

-- The keeper says that entries are kept, and a book refused the hold at a moment that the clock gives. This is the Reject of its
-- refusal.
pub record IsRefusedByBook (o : Order) (before after : Seat) (why : LocalReject) : Type 0 where
  pub keeps : Tells before.kept (keeper.asked true) after.kept
  pub now : ℤ
  pub fault : HoldFault
  pub asked : Tells before.moments now after.moments
  pub refused : IsHeldAt o now before.seen after.seen before.share after.share (Err fault)
  pub named : why ≡ reject_of_fault o.packet.amount fault

-- No hold is booked: entries are not kept; or they are, and memory was denied before a book was asked; or a book refused it.
abbrev pub IsHoldRefusal : Order → Seat → Seat → LocalReject → Type 0
IsHoldRefusal o before after why =
    IsUnasked false before after why ⊎ (IsUnasked true before after why ⊎ IsRefusedByBook o before after why)

-- ---- handing on

-- the Prepare that the next peer is handed
abbrev pub onward : PlainPrepare → Held → PlainPrepare
onward packet held = record { amount = held.out; expires = held.deadline; condition = packet.condition; destination = packet.destination; payload = packet.payload }

-- The next peer is handed one packet, and this came back for it.
pub record IsSentOn (packet : PlainPrepare) (held : Held) (sent sent' : Option (List Sending)) (came : Option (List ℕ)) : Type 0 where
  pub octets : List ℕ
  pub spelled : Spells octets (prepare (onward packet held))
  pub handed : Tells sent (sending held.to octets held.deadline came) sent'

-- What a reply comes to has three parts: what the book is told, how the hold ends if it is open and in time, and what the sender
-- is told then.
abbrev pub effect : PeerReply → HoldEnd → Told → ReplyEffect
effect answer ended told = record { answer = answer; ended = ended; told = told }

-- of no reply, or of one that is no Fulfill and no Reject
abbrev pub effect_of_none : ReplyEffect
effect_of_none = effect peer_reply.NoReply (Released cause.NoReply) (Reject (Own local.PeerUnreachable))

-- of a Fulfill, by the condition that its preimage is to meet
abbrev pub effect_of_fulfill : List ℕ → List ℕ → ReplyEffect
effect_of_fulfill condition preimage =
    if meets condition preimage then effect (peer_reply.Fulfill preimage) Fulfilled Fulfill
    else effect peer_reply.BadFulfill (Released cause.WrongPreimage) (Reject (Own local.WrongCondition))

-- of a packet
abbrev pub effect_of_packet : List ℕ → Result PlainPacket PacketFault → ReplyEffect
effect_of_packet condition (Ok (fulfill f)) = effect_of_fulfill condition f.preimage
effect_of_packet condition (Ok (reject r)) = effect (peer_reply.Reject r.code) (Released (cause.Peer r.code)) (Reject (Peer r.code))
effect_of_packet condition (Ok (prepare p)) = effect_of_none
effect_of_packet condition (Err fault) = effect_of_none

-- of the octets that came for a Prepare of this condition, if any did
abbrev pub effect_of : List ℕ → Option (List ℕ) → ReplyEffect
effect_of condition (Some octets) = effect_of_packet condition (reading octets)
effect_of condition None = effect_of_none

-- what the link is told of the octets that came: whether they are a Fulfill or a Reject
abbrev pub kind_of : PeerReply → ReplyKind
kind_of (peer_reply.Fulfill preimage) = Answer
kind_of peer_reply.BadFulfill = Answer
kind_of (peer_reply.Reject code) = Answer
kind_of peer_reply.NoReply = NoAnswer

-- ---- ending

-- A book of the desk was told at a moment what came for a hold, and this was its reply. Before it the worker had seen a beginning of
-- that book's journal, and then all of it.
abbrev pub IsAnsweredAt : Order → ℤ → ℕ → PeerReply → Entries → Entries → Portion → Portion → Result Outcome NotOpen → Type 0
IsAnsweredAt o now hold answer seen seen' before after reply =
    IsShownAt o.desk (λ book. answer_step book (by before.actor now) hold answer) seen seen' before after reply

-- how a hold ended, and the number of the entry that says so
abbrev pub end_of : Outcome → ℕ × HoldEnd
end_of (outcome.Fulfilled entry) = (entry, Fulfilled)
end_of (outcome.Released entry c) = (entry, Released c)

-- the entry that a book appended to answer a hold, if it did
abbrev pub entry_of : Result Outcome NotOpen → Option ℕ
entry_of (Ok told) = Some (end_of told).0
entry_of (Err fault) = None

-- how many entries are named
abbrev pub count_of : Option ℕ → ℕ
count_of None = 0
count_of (Some n) = 1

-- what the books say of a hold that ended by this entry
abbrev pub record_of_end : Order → Held → HoldEnd → ℕ → Record
record_of_end o held ended entry = record { number = entry; what = recorded.Answered (record { hold = held.number; from = o.from; to = held.to; amount = o.packet.amount; out = held.out; condition = o.packet.condition; ended = ended }) }

-- The hold ended by what came back: the sender is told that, and the worker keeps the record.
abbrev pub EndsInTime : Order → Held → ReplyEffect → ℕ → List Record → List Record → Told → Type 0
EndsInTime o held c entry kept kept' told = (told ≡ c.told) × (kept' ≡ kept ++ record_of_end o held c.ended entry ∷ [])

-- that time ran out
abbrev pub late : Told
late = Reject (Own local.TransferTimedOut)

-- The hold was over, or ended otherwise: the sender is told that time ran out, and the worker keeps nothing.
abbrev pub EndsLate : List Record → List Record → Told → Type 0
EndsLate kept kept' told = (told ≡ late) × (kept' ≡ kept)

-- An end that the book has counts by what came back just where it is the one that this comes to. Where the book has none, the hold
-- was over.
abbrev pub Ends : Order → Held → ReplyEffect → Result Outcome NotOpen → List Record → List Record → Told → Type 0
Ends o held c (Err fault) kept kept' told = EndsLate kept kept' told
Ends o held c (Ok outcome) kept kept' told =
    (((end_of outcome).1 ≡ c.ended) × EndsInTime o held c (end_of outcome).0 kept kept' told)
    ⊎ (((end_of outcome).1 ≢ c.ended) × EndsLate kept kept' told)

-- What came back is told to a book at a moment that the clock gives, and the worker's share and records are raised by that. The
-- keeper is asked nothing yet.
pub record IsEnded (o : Order) (held : Held) (c : ReplyEffect) (before after : Seat) (told : Told) (entry : Option ℕ) : Type 0 where
  pub later : ℤ
  pub reply : Result Outcome NotOpen
  pub asked : Tells before.moments later after.moments
  pub booked : IsAnsweredAt o later held.number c.answer before.seen after.seen before.share after.share reply
  pub entry_is : entry_of reply ≡ entry
  pub raised : after.share ≡ portion before.share.actor (before.share.entries + count_of entry)
  pub ends : Ends o held c reply before.records after.records told
  pub unkept : after.kept ≡ before.kept

-- Before the sender is told a Fulfill, the keeper is handed the journal that has its entry. Whatever it says, the sender is owed the
-- Fulfill. Before a Reject nothing is kept.
abbrev pub KeepsFirst : Told → Seat → Seat → Type 0
KeepsFirst Fulfill before after = (said : Result (Unit {0}) NotKept) × IsKept said before after
KeepsFirst (Reject r) before after = after ≡ before

-- ---- a Prepare that is forwarded

-- the octets that the sender is answered: those that came, or a Reject of the connector's own
abbrev pub IsTold : Configuration → Option (List ℕ) → Told → List ℕ → Type 0
IsTold C came Fulfill octets = came ≡ Some octets
IsTold C came (Reject (Peer code)) octets = came ≡ Some octets
IsTold C came (Reject (Own why)) octets = Spells octets (reject (local_reject C why))

-- the Reject that the sender is told, if it is one
abbrev pub reject_told : Told → Option ToldReject
reject_told Fulfill = None
reject_told (Reject r) = Some r

-- Nothing is booked, and no peer is handed anything.
pub record IsRefused (o : Order) (before after : PlainWorker) (rejected : Option ToldReject) : Type 0 where
  pub why : LocalReject
  pub reason : IsHoldRefusal o (seat_of before) (seat_of after) why
  pub told : Spells after.reply (reject (local_reject o.desk.config why))
  pub named : rejected ≡ Some (Own why)
  pub share : after.share ≡ before.share
  pub records : after.records ≡ before.records
  pub links : (after.sent ≡ before.sent) × (after.engine ≡ before.engine)

-- A hold is booked, then the next peer is asked, then what came back is booked, and a Fulfill is kept before the sender is told it.
-- What the answer's session finds begins with what the hold's left, the hold among it, since the worker has seen that.
pub record IsSent (o : Order) (before after : PlainWorker) (hold : ℕ) (answer : Option ℕ) (rejected : Option ToldReject) : Type 0 where
  pub held : Held
  pub number : held.number ≡ hold
  pub between : Seat
  pub booked : IsHolding o (seat_of before) between held
  pub came : Option (List ℕ)
  pub asked : IsSentOn o.packet held before.sent after.sent came
  pub told : Told
  pub left : Seat
  pub ended : IsEnded o held (effect_of o.packet.condition came) between left told answer
  pub kept_first : KeepsFirst told left (seat_of after)
  pub engine : after.engine ≡ before.engine
  pub reply : IsTold o.desk.config came told after.reply
  pub named : rejected ≡ reject_told told

-- by what the receipt names: an answer only beside a hold, and the Reject that the sender was told
abbrev pub IsForwardedBy : Order → PlainWorker → PlainWorker → Option ℕ → Option ℕ → Option ToldReject → Type 0
IsForwardedBy o before after None None rejected = IsRefused o before after rejected
IsForwardedBy o before after None (Some answer) rejected = ⊥
IsForwardedBy o before after (Some hold) answer rejected = IsSent o before after hold answer rejected
