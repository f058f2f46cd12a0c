-- What a Prepare is answered, and the hold that it makes. Refusals stand in their order.
use Rattle.std.specs.Prelude.{ℕ, ◌+◌, ◌==◌, ℤ, pos, ◌+ℤ◌, ◌-ℤ◌, int_lt, int_le, Bool, not, ◌&&◌, length, nat_lt, nat_le, Option, Result, Ok, Err}
use Rattle.std.specs.Int.{int_min}
use Rattle.ilp_order.specs.Refusals.{◌>>=◌, refuse_if, found_or}
use Rattle.ilp_packet.specs.Packet.{PlainPrepare}
use Rattle.ilp_assets.specs.declared.quote.QuoteFault.{QuoteFault}
use Rattle.ilp_assets.specs.Quote.{most}
use Rattle.ilp_lookup.specs.Answer.{routed_peer}
use Rattle.ilp_accounts.specs.Configuration.{Configuration, peer_at}
use Rattle.ilp_journal.specs.declared.entry.Hold.{Hold}
use Rattle.ilp_journal.specs.declared.entry.What.TheVariants as what
use Rattle.ilp_journal.specs.Balance.{balance}
use Rattle.ilp_journal.specs.TrialBalance.{total_in, total_out}
use Rattle.ilp_book.specs.declared.calls.Held.{Held}
use Rattle.ilp_book.specs.declared.fault.HoldFault.{HoldFault}
use Rattle.ilp_book.specs.declared.fault.HoldFault.TheVariants as hold_fault
use Rattle.ilp_rules.specs.Configured.{peer_assets, asset_of, quote_between}
use Rattle.ilp_rules.specs.Book.{PlainBook, By, Growth, granted, denied, Made, says, books, moment_at, has_room}

-- a Prepare of the peer `from`, and the peer to which its destination is routed, if there is one
pub record Incoming : Type 0 where
  pub from : ℕ
  pub packet : PlainPrepare
  pub route : Option ℕ

abbrev pub given_route : ℕ → PlainPrepare → Option ℕ → Incoming
given_route from packet route = record { from = from; packet = packet; route = route }

-- a Prepare with the route of its destination
abbrev pub incoming : Configuration → ℕ → PlainPrepare → Incoming
incoming C from packet = given_route from packet (routed_peer C.routes packet.destination)

-- a refusal of the quote as one of the hold
abbrev pub with_quote_fault : {A : Type 0} → Result A QuoteFault → Result A HoldFault
with_quote_fault (Ok x) = Ok x
with_quote_fault (Err fault) = Err (hold_fault.Quote fault)

-- the moment from which on the next peer answers too late
abbrev pub latest_answer : Configuration → PlainPrepare → ℤ
latest_answer C packet = packet.expires -ℤ pos C.settings.window_ms

-- the hold that a Prepare asks for at the moment m, or the first refusal of its terms
unfoldable pub hold_terms : Configuration → ℤ → Incoming → Result Hold HoldFault
hold_terms C m sent = do
  let packet = sent.packet
  let max = (peer_at C sent.from).max_packet
  _ ← refuse_if (nat_lt max packet.amount) (hold_fault.AmountTooLarge max)
  to ← found_or sent.route hold_fault.NoRoute
  _ ← refuse_if (to == sent.from) hold_fault.BackToSender
  _ ← refuse_if (int_le packet.expires m) hold_fault.Expired
  _ ← refuse_if (int_le (latest_answer C packet) m) hold_fault.TooShort
  q ← with_quote_fault (quote_between C sent.from to packet.amount)
  Ok (record { from = sent.from; to = to; amount = packet.amount; fee = q.fee; out = q.out; deadline = int_min (latest_answer C packet) (m +ℤ pos C.settings.max_hold_ms); condition = packet.condition })

-- whether with this hold the totals of both assets stay within what one packet can carry
abbrev pub has_total : PlainBook → Hold → Bool
has_total book h =
    let assets = peer_assets book.config in
    nat_le (total_in assets book.base book.entries (asset_of book.config h.from) + h.amount) most
    && nat_le (total_out assets book.base book.entries (asset_of book.config h.to) + h.out) most

-- a hold of these terms, if the book has room, totals and balance for it
unfoldable pub hold_fitted : PlainBook → Hold → Result Hold HoldFault
hold_fitted book h = do
  let owed = balance book.entries h.from
  _ ← refuse_if (not (has_room book 2)) hold_fault.Full
  _ ← refuse_if (not (has_total book h)) hold_fault.TotalFull
  _ ← refuse_if (int_lt (owed -ℤ pos h.amount) (peer_at book.config h.from).least) (hold_fault.BelowLeast owed)
  Ok h

-- the hold that a book has for a Prepare at the moment m, or the first refusal
unfoldable pub hold_checked : PlainBook → ℤ → Incoming → Result Hold HoldFault
hold_checked book m sent = do
  h ← hold_terms book.config m sent
  hold_fitted book h

-- whether memory was denied, by a reply
abbrev pub growth_of : Result Held HoldFault → Growth
growth_of (Err hold_fault.Memory) = denied
growth_of _ = granted

-- Want of memory comes last, and only where an entry would have been appended.
abbrev pub hold_booked : PlainBook → By → Growth → Result Hold HoldFault → Made (Result Held HoldFault)
hold_booked book caller growth (Err fault) = says (Err fault)
hold_booked book caller denied (Ok h) = says (Err hold_fault.Memory)
hold_booked book caller granted (Ok h) =
    books book caller (Ok (record { number = length book.entries; to = h.to; out = h.out; deadline = h.deadline })) (what.Hold h)

-- a Prepare of a peer
unfoldable pub hold_step : PlainBook → By → Incoming → Growth → Made (Result Held HoldFault)
hold_step book caller sent growth = hold_booked book caller growth (hold_checked book (moment_at book.entries caller.now) sent)
