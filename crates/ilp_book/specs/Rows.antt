-- Worked runs of calls, and what they are answered. Alice may owe 100 cents, and bob settles; both have dollars at scale 2.
use Rattle.std.specs.Prelude.{◌≡◌, ℕ, ◌+◌, pos, negsuc, true, false, List, [], ◌∷◌, ◌++◌, replicate, Option, Some, None, Ok, Err, codes, map}
use Rattle.ilp_packet.specs.Packet.{PlainPrepare}
use Rattle.ilp_assets.specs.declared.quote.QuoteFault.TheVariants as quote_fault
use Rattle.ilp_accounts.specs.Configuration.{Configuration, PlainPeer, nobody}
use Rattle.ilp_accounts.specs.declared.settings.LogSync.TheVariants.{Group}
use Rattle.ilp_journal.specs.declared.entry.Entry.{Entry}
use Rattle.ilp_journal.specs.declared.entry.What.TheVariants as what
use Rattle.ilp_journal.specs.declared.entry.Cause.{Cause}
use Rattle.ilp_journal.specs.declared.entry.Cause.TheVariants as cause
use Rattle.ilp_journal.specs.Journal.{Entries, open_holds}
use Rattle.ilp_journal.specs.Balance.{balance}
use Rattle.ilp_book.specs.declared.fault.HoldFault.{HoldFault}
use Rattle.ilp_book.specs.declared.fault.HoldFault.TheVariants as hold_fault
use Rattle.ilp_book.specs.declared.calls.PeerReply.{PeerReply}
use Rattle.ilp_book.specs.declared.calls.PeerReply.TheVariants as peer_reply
use Rattle.ilp_book.specs.declared.calls.Outcome.TheVariants as outcome
use Rattle.ilp_journal.specs.declared.credit_kind.CreditKind.TheVariants.{Settled, Lowered}
use Rattle.ilp_book.specs.declared.fault.CreditFault.TheVariants as credit_fault
use Rattle.ilp_book.specs.declared.fault.AskFault.TheVariants as ask_fault
use Rattle.ilp_terms.specs.Condition.{meets}
use Rattle.ilp_rules.specs.Book.{by, granted, new_book}
use Rattle.ilp_rules.specs.Carried.{begun_with, carried}
use Rattle.ilp_settlement.specs.declared.quantity.Quantity.{Quantity}
use Rattle.ilp_settlement.specs.declared.verdict.EngineVerdict.TheVariants.{Accepted, Refused}
use Rattle.ilp_book.specs.Run.{Call, hold, answer, expire, credit, ask, close, CallReply, of_hold, of_answer, of_expire, of_credit, of_ask, of_close, Step, replies_to, book_after}

-- ---- the peers and the calls

-- alice is the peer 0
abbrev pub alice : PlainPeer
alice = record nobody { least = negsuc 99; max_packet = 18446744073709551615 }

-- bob is the peer 1
abbrev pub bob : PlainPeer
bob = record alice { levels = Some (record { threshold = pos 1000; settle_to = pos 200; settle_max = 18446744073709551615 }) }

-- bob, where a settlement with him is of 300 cents at most
abbrev pub bob_in_parts : PlainPeer
bob_in_parts = record alice { levels = Some (record { threshold = pos 1000; settle_to = pos 200; settle_max = 300 }) }

abbrev pub between : PlainPeer → PlainPeer → Configuration
between one other = record {
  settings = record { address = []; run = []; listen = []; engine_listen = []; path = []; workers = 1; journal = 65536; window_ms = 1000; max_hold_ms = 30000; sweep_ms = 100; settle_ms = 1000; sync = Group; in_flight = 4096; new_period_at = None };
  table = record { assets = record { code = codes "USD"; scale = 2 } ∷ []; prices = [] };
  peers = one ∷ other ∷ [];
  routes = [];
}

-- the beginning of 2025
abbrev pub new_year : ℕ
new_year = 1735689600000

-- a Prepare of so many cents that expires half a minute after the new year
abbrev pub prepare : List ℕ → ℕ → PlainPrepare
prepare condition amount = record { amount = amount; expires = pos (new_year + 30000); condition = condition; destination = codes "test.bob"; payload = [] }

-- a peer sends a Prepare, and it is routed to a peer or to none
abbrev pub sends : ℕ → PlainPrepare → Option ℕ → Call
sends from packet route = hold (record { from = from; packet = packet; route = route })

-- alice sends bob so many cents
abbrev pub pay : List ℕ → ℕ → Call
pay condition amount = sends 0 (prepare condition amount) (Some 1)

-- the preimage of 32 zeros
abbrev pub zeros : PeerReply
zeros = peer_reply.Fulfill (replicate 32 0)

-- cents that a peer settles
abbrev pub cents : ℕ → Quantity
cents n = record { amount = n; scale = 2 }

-- a peer settles so much under the key k
abbrev pub settles : ℕ → Quantity → Call
settles peer quantity = credit (record { peer = peer; key = codes "k"; quantity = quantity; kind = Settled })

-- a peer's balance is corrected downwards by so many cents under a key
abbrev pub charges_back : ℕ → List ℕ → ℕ → Call
charges_back peer key n = credit (record { peer = peer; key = key; quantity = cents n; kind = Lowered (codes "charged back") })

-- a call so many milliseconds after the new year
abbrev pub at_ : ℕ → Call → Step
at_ n call = record { caller = by 0 (pos (new_year + n)); call = call; growth = granted }

-- what steps on a new book are answered
abbrev pub answers_of : Configuration → List Step → List CallReply
answers_of C steps = replies_to (new_book C) steps

-- what steps leave in the journal of a new book
abbrev pub entries_of : Configuration → List Step → Entries
entries_of C steps = (book_after (new_book C) steps).entries

-- ---- the replies

abbrev pub accepted_as : ℕ → ℕ → CallReply
accepted_as number out = of_hold (Ok (record { number = number; to = 1; out = out; deadline = pos (new_year + 29000) }))

abbrev pub refused_for : HoldFault → CallReply
refused_for fault = of_hold (Err fault)

abbrev pub fulfilled_by : ℕ → CallReply
fulfilled_by n = of_answer (Ok (outcome.Fulfilled n))

abbrev pub released_by : ℕ → Cause → CallReply
released_by n c = of_answer (Ok (outcome.Released n c))

abbrev pub not_open : ℕ → CallReply
not_open closer = of_answer (Err (record { closer = Some closer }))

-- ---- the runs; c is any condition that 32 zeros meet

-- a payment of 100 cents
pub record PaidRow (c : List ℕ) : Type 0 where
  pub replies : answers_of (between alice bob) (at_ 0 (pay c 100) ∷ at_ 500 (answer 0 zeros) ∷ []) ≡ accepted_as 0 100 ∷ fulfilled_by 1 ∷ []
  pub alice_has : balance (entries_of (between alice bob) (at_ 0 (pay c 100) ∷ at_ 500 (answer 0 zeros) ∷ [])) 0 ≡ negsuc 99
  pub bob_has : balance (entries_of (between alice bob) (at_ 0 (pay c 100) ∷ at_ 500 (answer 0 zeros) ∷ [])) 1 ≡ pos 100
  pub open_before : open_holds (entries_of (between alice bob) (at_ 0 (pay c 100) ∷ [])) 0 ≡ 1
  pub open_of_bob : open_holds (entries_of (between alice bob) (at_ 0 (pay c 100) ∷ [])) 1 ≡ 0
  pub open_after : open_holds (entries_of (between alice bob) (at_ 0 (pay c 100) ∷ at_ 500 (answer 0 zeros) ∷ [])) 0 ≡ 0

-- a fulfillment counts until the deadline, and not from there on
pub record LateRow (c : List ℕ) : Type 0 where
  pub before : answers_of (between alice bob) (at_ 0 (pay c 100) ∷ at_ 28999 (answer 0 zeros) ∷ []) ≡ accepted_as 0 100 ∷ fulfilled_by 1 ∷ []
  pub from_then_on : answers_of (between alice bob) (at_ 0 (pay c 100) ∷ at_ 29000 (answer 0 zeros) ∷ []) ≡ accepted_as 0 100 ∷ released_by 1 cause.Late ∷ []

-- what releases a hold before its deadline
pub record ReleasedRow (c : List ℕ) : Type 0 where
  pub wrong : meets c (replicate 32 0) ≡ false → answers_of (between alice bob) (at_ 0 (pay c 100) ∷ at_ 1 (answer 0 zeros) ∷ []) ≡ accepted_as 0 100 ∷ released_by 1 cause.WrongPreimage ∷ []
  pub known_wrong : answers_of (between alice bob) (at_ 0 (pay c 100) ∷ at_ 1 (answer 0 peer_reply.BadFulfill) ∷ []) ≡ accepted_as 0 100 ∷ released_by 1 cause.WrongPreimage ∷ []
  pub rejected : answers_of (between alice bob) (at_ 0 (pay c 100) ∷ at_ 1 (answer 0 (peer_reply.Reject (codes "F99"))) ∷ []) ≡ accepted_as 0 100 ∷ released_by 1 (cause.Peer (codes "F99")) ∷ []
  pub unanswered : answers_of (between alice bob) (at_ 0 (pay c 100) ∷ at_ 1 (answer 0 peer_reply.NoReply) ∷ []) ≡ accepted_as 0 100 ∷ released_by 1 cause.NoReply ∷ []
  pub once : answers_of (between alice bob) (at_ 0 (pay c 100) ∷ at_ 1 (answer 0 peer_reply.NoReply) ∷ at_ 2 (answer 0 zeros) ∷ []) ≡ accepted_as 0 100 ∷ released_by 1 cause.NoReply ∷ not_open 1 ∷ []
  pub given_back : balance (entries_of (between alice bob) (at_ 0 (pay c 100) ∷ at_ 1 (answer 0 peer_reply.NoReply) ∷ [])) 0 ≡ pos 0
  pub no_hold : answers_of (between alice bob) (at_ 0 (answer 0 zeros) ∷ []) ≡ of_answer (Err (record { closer = None })) ∷ []

-- an expiry takes a hold from its deadline on, and then no answer does
abbrev pub ExpiredRow : List ℕ → Type 0
ExpiredRow c =
    answers_of (between alice bob) (at_ 0 (pay c 100) ∷ at_ 28999 expire ∷ at_ 29000 expire ∷ at_ 29000 (answer 0 zeros) ∷ at_ 29000 expire ∷ [])
    ≡ accepted_as 0 100 ∷ of_expire None ∷ of_expire (Some 0) ∷ not_open 1 ∷ of_expire None ∷ []

-- the least balance is looked for after the amount is taken off
abbrev pub LeastRow : List ℕ → Type 0
LeastRow c = answers_of (between alice bob) (at_ 0 (pay c 100) ∷ at_ 0 (pay c 1) ∷ []) ≡ accepted_as 0 100 ∷ refused_for (hold_fault.BelowLeast (negsuc 99)) ∷ []

-- what refuses a Prepare by its terms
pub record TermsRow (c : List ℕ) : Type 0 where
  pub too_large : answers_of (between (record alice { max_packet = 10 }) bob) (at_ 0 (pay c 11) ∷ at_ 0 (pay c 10) ∷ []) ≡ refused_for (hold_fault.AmountTooLarge 10) ∷ accepted_as 0 10 ∷ []
  pub no_route : answers_of (between alice bob) (at_ 0 (sends 0 (prepare c 1) None) ∷ []) ≡ refused_for hold_fault.NoRoute ∷ []
  pub back : answers_of (between alice bob) (at_ 0 (sends 1 (prepare c 1) (Some 1)) ∷ []) ≡ refused_for hold_fault.BackToSender ∷ []
  pub in_time : answers_of (between alice bob) (at_ 28999 (pay c 100) ∷ []) ≡ accepted_as 0 100 ∷ []
  pub too_short : answers_of (between alice bob) (at_ 29000 (pay c 100) ∷ []) ≡ refused_for hold_fault.TooShort ∷ []
  pub expired : answers_of (between alice bob) (at_ 30000 (pay c 100) ∷ []) ≡ refused_for hold_fault.Expired ∷ []
  pub nothing_left : answers_of (between (record alice { fee_ppm = 1 }) bob) (at_ 0 (pay c 1) ∷ []) ≡ refused_for (hold_fault.Quote quote_fault.RoundsToNothing) ∷ []
  -- the first of several is told
  pub first : answers_of (between (record alice { max_packet = 10 }) bob) (at_ 30000 (sends 0 (prepare c 11) None) ∷ at_ 30000 (sends 0 (prepare c 10) None) ∷ [])
      ≡ refused_for (hold_fault.AmountTooLarge 10) ∷ refused_for hold_fault.NoRoute ∷ []

-- the open holds of an asset come to what one packet carries, and no more
abbrev pub TotalRow : List ℕ → Type 0
TotalRow c =
    answers_of (between alice bob) (at_ 0 (settles 0 (cents 18446744073709551615)) ∷ at_ 0 (pay c 18446744073709551615) ∷ at_ 0 (pay c 1) ∷ [])
    ≡ of_credit (Ok (record { number = 0; amount = 18446744073709551615; fresh = true })) ∷ accepted_as 1 18446744073709551615 ∷ refused_for hold_fault.TotalFull ∷ []

-- a journal of three entries takes one hold, and what ends it
abbrev pub FullRow : List ℕ → Type 0
FullRow c =
    let C = between alice bob in
    answers_of (record C { settings = record C.settings { journal = 3 } }) (at_ 0 (pay c 1) ∷ at_ 0 (pay c 1) ∷ at_ 29000 expire ∷ at_ 29000 (settles 1 (cents 1)) ∷ at_ 29000 (settles 0 (cents 1)) ∷ [])
    ≡ accepted_as 0 1 ∷ refused_for hold_fault.Full ∷ of_expire (Some 0) ∷ of_credit (Ok (record { number = 2; amount = 1; fresh = true })) ∷ of_credit (Err credit_fault.Full) ∷ []

-- an older time is the last entry's moment
abbrev pub OlderRow : List ℕ → Type 0
OlderRow c =
    map (λ (e : Entry). e.moment) (entries_of (between alice bob) (at_ 500 (pay c 1) ∷ at_ 0 (pay c 1) ∷ at_ 501 (pay c 1) ∷ []))
    ≡ pos (new_year + 500) ∷ pos (new_year + 500) ∷ pos (new_year + 501) ∷ []

-- a key is credited once
abbrev pub CreditedRow : Type 0
CreditedRow =
    let large = settles 0 (record { amount = 1999999999; scale = 9 }) in
    answers_of (between alice bob) (at_ 0 large ∷ at_ 0 large ∷ at_ 0 (settles 0 (cents 5)) ∷ [])
    ≡ of_credit (Ok (record { number = 0; amount = 199; fresh = true })) ∷ of_credit (Ok (record { number = 0; amount = 199; fresh = false })) ∷ of_credit (Err (credit_fault.KeyTaken 0)) ∷ []

-- a correction takes back what was credited, once under its key, but never below the least, which is -100 cents for alice; the key of
-- a settlement is taken for a correction too
abbrev pub CorrectedRow : Type 0
CorrectedRow =
    answers_of (between alice bob) (at_ 0 (settles 0 (cents 50)) ∷ at_ 0 (charges_back 0 (codes "c") 150) ∷ at_ 0 (charges_back 0 (codes "c") 150)
    ∷ at_ 0 (charges_back 0 (codes "c") 149) ∷ at_ 0 (charges_back 0 (codes "k") 50) ∷ at_ 0 (charges_back 0 (codes "d") 1) ∷ [])
    ≡ of_credit (Ok (record { number = 0; amount = 50; fresh = true })) ∷ of_credit (Ok (record { number = 1; amount = 150; fresh = true }))
    ∷ of_credit (Ok (record { number = 1; amount = 150; fresh = false })) ∷ of_credit (Err (credit_fault.KeyTaken 1)) ∷ of_credit (Err (credit_fault.KeyTaken 0))
    ∷ of_credit (Err (credit_fault.BelowLeast (negsuc 99) (negsuc 99))) ∷ []

-- what bob is owed above 200 cents is asked for, from 1000 cents on
abbrev pub SettledRow : Type 0
SettledRow =
    answers_of (between alice bob) (at_ 0 (settles 1 (cents 1000)) ∷ at_ 0 (ask 1) ∷ at_ 0 (ask 1) ∷ at_ 0 (close 1 Refused) ∷ at_ 0 (close 1 Accepted) ∷ at_ 0 (ask 0) ∷ [])
    ≡ of_credit (Ok (record { number = 0; amount = 1000; fresh = true })) ∷ of_ask (Ok (record { number = 1; amount = 800 })) ∷ of_ask (Err (ask_fault.NotDue (pos 200)))
    ∷ of_close (Ok 2) ∷ of_close (Err (record { closer = Some 2 })) ∷ of_ask (Err (ask_fault.NotDue (pos 0))) ∷ []

-- a settlement with bob is asked for
abbrev pub asked_as : ℕ → CallReply
asked_as n = of_ask (Ok (record { number = n; amount = 300 }))

-- 2000 cents are settled with bob in parts of 300, of which four are open at once
abbrev pub PartsRow : Type 0
PartsRow =
    answers_of (between alice bob_in_parts) (at_ 0 (settles 1 (cents 2000)) ∷ at_ 0 (ask 1) ∷ at_ 0 (ask 1) ∷ at_ 0 (ask 1) ∷ at_ 0 (ask 1) ∷ at_ 0 (ask 1)
    ∷ at_ 0 (close 2 Accepted) ∷ at_ 0 (ask 1) ∷ at_ 0 (close 3 Refused) ∷ at_ 0 (ask 1) ∷ [])
    ≡ of_credit (Ok (record { number = 0; amount = 2000; fresh = true })) ∷ asked_as 1 ∷ asked_as 2 ∷ asked_as 3 ∷ asked_as 4 ∷ of_ask (Err (ask_fault.StillOpen 1 300))
    ∷ of_close (Ok 5) ∷ of_ask (Err (ask_fault.NotDue (pos 800))) ∷ of_close (Ok 6) ∷ asked_as 7 ∷ []

-- the hold 0 is released by the actor 0
abbrev pub ended_at : ℕ → Cause → Entry
ended_at n c = record { moment = pos (new_year + n); actor = 0; what = what.Released 0 c }

-- what is carried over of a payment of 100 cents whose hold is open: before the deadline it ends since the connector starts again
pub record CarriedRow (c : List ℕ) : Type 0 where
  pub before : carried (between alice bob) 0 (entries_of (between alice bob) (at_ 0 (pay c 100) ∷ [])) (pos (new_year + 500))
      ≡ begun_with (between alice bob) 0 (entries_of (between alice bob) (at_ 0 (pay c 100) ∷ []) ++ ended_at 500 cause.Restart ∷ [])
  pub from_then_on : carried (between alice bob) 0 (entries_of (between alice bob) (at_ 0 (pay c 100) ∷ [])) (pos (new_year + 29000))
      ≡ begun_with (between alice bob) 0 (entries_of (between alice bob) (at_ 0 (pay c 100) ∷ []) ++ ended_at 29000 cause.Late ∷ [])
  pub base : (carried (between alice bob) 0 (entries_of (between alice bob) (at_ 0 (pay c 100) ∷ [])) (pos (new_year + 500))).base ≡ 2
  pub given_back : balance (carried (between alice bob) 0 (entries_of (between alice bob) (at_ 0 (pay c 100) ∷ [])) (pos (new_year + 500))).entries 0 ≡ pos 0
