-- What a forward comes to for its sender, a Fulfill or a Reject, and behind which entries one is told.
use Rattle.std.specs.Prelude.{◌≡◌, ℕ, ◌+◌, ◌<◌, ◌≤◌, ◌⊎◌, ◌==◌, nat_lt, List, [], ◌∷◌, ◌++◌, length, slice_get, Option, Some, None, option_and_then, Result, Ok, true, if◌then◌else◌}
use Rattle.ilp_terms.specs.Condition.{meets}
use Rattle.ilp_packet.specs.Packet.{PlainPrepare, PlainFulfill, PlainReject, prepare, fulfill, reject, Spells}
use Rattle.ilp_accounts.specs.Configuration.{Configuration, peer_at}
use Rattle.ilp_journal.specs.declared.entry.Entry.{Entry}
use Rattle.ilp_journal.specs.declared.entry.Credited.{Credited}
use Rattle.ilp_journal.specs.Journal.{Entries, fulfilled}
use Rattle.ilp_journal.specs.Credits.{credit_at}
use Rattle.ilp_book.specs.declared.calls.Held.{Held}
use Rattle.ilp_book.specs.declared.fault.HoldFault.{HoldFault}
use Rattle.ilp_book.specs.declared.fault.HoldFault.TheVariants as hold_fault
use Rattle.ilp_book.specs.declared.calls.Kept.{Kept}
use Rattle.ilp_book.specs.HoldStep.{Incoming}
use Rattle.ilp_book.specs.SettleStep.{Payment}
use Rattle.ilp_desk.specs.declared.record.HoldEnd.TheVariants.{Fulfilled}
use Rattle.ilp_desk.specs.Desk.{PlainDesk}
use Rattle.ilp_desk.specs.Portion.{portion}
use Rattle.ilp_desk.specs.Totals.{packets}
use Rattle.ilp_keeping.specs.declared.keeper.NotKept.{NotKept}
use Rattle.ilp_keeping.specs.Keeping.{ToKeeper, keeping, kept}
use Rattle.ilp_replies.specs.declared.answer.Receipt.{Receipt}
use Rattle.ilp_replies.specs.declared.rejects.LocalReject.{LocalReject}
use Rattle.ilp_replies.specs.declared.rejects.LocalReject.TheVariants as local
use Rattle.ilp_replies.specs.declared.rejects.ToldReject.{ToldReject}
use Rattle.ilp_replies.specs.declared.rejects.ToldReject.TheVariants.{Own}
use Rattle.ilp_replies.specs.Rejects.{local_reject, told_code}
use Rattle.ilp_workers.specs.Worker.{PlainWorker}
use Rattle.ilp_workers.specs.Forwarding.{order, record_of_end}
use Rattle.ilp_workers.specs.Pending.{PlainPending, told_order}
use Rattle.ilp_workers.specs.Arrivals.{Arrival}
use Rattle.ilp_workers.specs.Crediting.{PlainBookedCredit}

-- The sender is answered a Fulfill whose preimage meets the Prepare's condition. Two entries are booked, and the worker keeps one
-- more record, of a fulfilled hold.
pub record IsFulfilled (a : Arrival) (before after : PlainWorker) (receipt : Receipt) : Type 0 where
  pub packet : PlainPrepare
  pub held : Held
  pub entry : ℕ
  pub answer : PlainFulfill
  pub came : Spells a.octets (prepare packet)
  pub reply : Spells after.reply (fulfill answer)
  pub met : meets packet.condition answer.preimage ≡ true
  pub holds : receipt.hold ≡ Some held.number
  pub answers : receipt.answer ≡ Some entry
  pub unrejected : receipt.rejected ≡ None
  pub raised : after.share ≡ portion before.share.actor (before.share.entries + 2)
  pub records : after.records ≡ before.records ++ record_of_end (order a.desk a.from packet) held Fulfilled entry ∷ []

-- The sender is answered a Reject, which the receipt names, and the worker keeps as many packets as before.
pub record IsRejected (before after : PlainWorker) (receipt : Receipt) : Type 0 where
  pub answer : PlainReject
  pub reply : Spells after.reply (reject answer)
  pub told : ToldReject
  pub named : receipt.rejected ≡ Some told
  pub code : answer.code ≡ told_code told
  pub records : packets after.records ≡ packets before.records

-- The sender of a packet that waited is to be answered by these octets, a Fulfill whose preimage meets its condition. One entry is
-- booked, and the worker keeps one more record, of this packet's hold, as fulfilled.
pub record IsFulfilledEnd (desk : PlainDesk) (p : PlainPending) (before after : PlainWorker) (receipt : Receipt) (octets : List ℕ) : Type 0 where
  pub entry : ℕ
  pub answer : PlainFulfill
  pub reply : Spells octets (fulfill answer)
  pub met : meets p.prepare.condition answer.preimage ≡ true
  pub holds : receipt.hold ≡ Some p.prepare.held.number
  pub answers : receipt.answer ≡ Some entry
  pub unrejected : receipt.rejected ≡ None
  pub raised : after.share ≡ portion before.share.actor (before.share.entries + 1)
  pub records : after.records ≡ before.records ++ record_of_end (told_order desk p.prepare) p.prepare.held Fulfilled entry ∷ []

-- It is to be answered by these octets, a Reject, which the receipt names, and the worker keeps as many packets as before.
pub record IsRejectedEnd (before after : PlainWorker) (receipt : Receipt) (octets : List ℕ) : Type 0 where
  pub answer : PlainReject
  pub reply : Spells octets (reject answer)
  pub told : ToldReject
  pub named : receipt.rejected ≡ Some told
  pub code : answer.code ≡ told_code told
  pub records : packets after.records ≡ packets before.records

-- The last that the keeper was asked is to keep a journal, whatever it said of it, in which the receipt's answer fulfills its hold.
pub record IsToldBehind (told : List ToKeeper) (receipt : Receipt) : Type 0 where
  pub earlier : List ToKeeper
  pub journal : Entries
  pub said : Result (Unit {0}) NotKept
  pub last : told ≡ earlier ++ kept (keeping journal said) ∷ []
  pub hold : ℕ
  pub entry : ℕ
  pub holds : receipt.hold ≡ Some hold
  pub answers : receipt.answer ≡ Some entry
  pub fulfills : option_and_then (λ (e : Entry). fulfilled e.what) (slice_get journal entry) ≡ Some hold

-- ---- refusals that no moment changes

-- a destination without a route, or one that is routed to the sender
abbrev pub route_refusal : ℕ → Option ℕ → Option HoldFault
route_refusal from None = Some hold_fault.NoRoute
route_refusal from (Some to) = if to == from then Some hold_fault.BackToSender else None

-- the first refusal of a Prepare that neither the time nor the book has a part in: of its amount and of its route
abbrev pub standing_refusal : Configuration → Incoming → Option HoldFault
standing_refusal C sent =
    let max = (peer_at C sent.from).max_packet in
    if nat_lt max sent.packet.amount then Some (hold_fault.AmountTooLarge max) else route_refusal sent.from sent.route

-- The sender is answered this Reject of the connector's own, which the receipt names.
abbrev pub IsToldOwn : PlainDesk → PlainWorker → Receipt → LocalReject → Type 0
IsToldOwn desk after receipt why = Spells after.reply (reject (local_reject desk.config why)) × (receipt.rejected ≡ Some (Own why))

-- The sender is answered this Reject of the connector's own, or T00: it had no memory, or entries are not kept. Nothing is booked.
pub record IsRefusedAs (desk : PlainDesk) (after : PlainWorker) (receipt : Receipt) (why : LocalReject) : Type 0 where
  pub reply : IsToldOwn desk after receipt why ⊎ IsToldOwn desk after receipt local.InternalError
  pub holds : receipt.hold ≡ None
  pub answers : receipt.answer ≡ None

-- ---- credits

-- The last that the keeper was asked is to keep a journal, of which it said that it is kept, and whose entry of this number credits
-- the peer under its key what is answered.
pub record IsCreditBehind (told : List ToKeeper) (p : Payment) (credit : Kept) : Type 0 where
  pub earlier : List ToKeeper
  pub journal : Entries
  pub last : told ≡ earlier ++ kept (keeping journal (Ok tt)) ∷ []
  pub entry : Credited
  pub stands : credit_at journal credit.number ≡ Some entry
  pub peer : entry.peer ≡ p.peer
  pub key : entry.key ≡ p.key
  pub amount : entry.credited ≡ credit.amount

-- Among so many first entries of the journal one has this number, and credits the peer under its key what is kept.
pub record IsCreditWithin (journal : Entries) (p : Payment) (b : PlainBookedCredit) : Type 0 where
  pub entry : Credited
  pub within : b.credit.number < b.behind
  pub all : b.behind ≤ length journal
  pub stands : credit_at journal b.credit.number ≡ Some entry
  pub peer : entry.peer ≡ p.peer
  pub key : entry.key ≡ p.key
  pub amount : entry.credited ≡ b.credit.amount
