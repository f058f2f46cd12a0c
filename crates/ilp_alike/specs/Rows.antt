-- A book is brought forward by a configuration in which its peers stand in another order and pay a fee, and both answer calls.
use Rattle.std.specs.Prelude.{◌≡◌, ℕ, ◌+◌, pos, negsuc, false, List, [], ◌∷◌, Ok, Err, Some, None, codes, map}
use Rattle.ilp_settlement.specs.declared.verdict.EngineVerdict.TheVariants.{Accepted, Refused}
use Rattle.ilp_accounts.specs.Configuration.{Configuration, PlainPeer}
use Rattle.ilp_journal.specs.declared.entry.Cause.TheVariants as cause
use Rattle.ilp_rules.specs.Book.{PlainBook, new_book}
use Rattle.ilp_next_period.specs.NextPeriod.{next_book}
use Rattle.ilp_book.specs.declared.calls.PeerReply.TheVariants as peer_reply
use Rattle.ilp_book.specs.declared.calls.Outcome.TheVariants as outcome
use Rattle.ilp_book.specs.declared.fault.HoldFault.TheVariants as hold_fault
use Rattle.ilp_book.specs.declared.fault.CreditFault.TheVariants as credit_fault
use Rattle.ilp_book.specs.declared.fault.AskFault.TheVariants as ask_fault
use Rattle.ilp_book.specs.Run.{answer, expire, ask, close, CallReply, of_hold, of_answer, of_expire, of_credit, of_ask, of_close, Step, replies_to, book_after}
use Rattle.ilp_book.specs.Rows.{alice, bob, between, new_year, prepare, sends, cents, settles, at_}
use Rattle.ilp_alike.specs.Alike.{by_config, calls_before, before_of, reply_with}

-- alice and bob, by their names
abbrev pub alice_named : PlainPeer
alice_named = record alice { name = codes "alice" }

abbrev pub bob_named : PlainPeer
bob_named = record bob { name = codes "bob" }

-- alice is the peer 0 and bob the peer 1; then bob is the peer 0, and alice the peer 1 and pays one percent
abbrev pub before_ : Configuration
before_ = between alice_named bob_named

abbrev pub after_ : Configuration
after_ = between bob_named (record alice_named { fee_ppm = 10000 })

-- Bob settled 1000 cents, of which 800 are asked for; 100 cents that alice sent were given back.
abbrev pub booked : List ℕ → PlainBook
booked c =
    book_after (new_book before_)
    (at_ 0 (settles 1 (cents 1000)) ∷ at_ 1 (ask 1) ∷ at_ 2 (sends 0 (prepare c 100) (Some 1)) ∷ at_ 3 (answer 2 peer_reply.NoReply) ∷ [])

-- the calls that follow: the settlement has the number 2, and the first hold the number 3
abbrev pub calls : List ℕ → List Step
calls c =
    at_ 10 (ask 0) ∷ at_ 11 (settles 0 (cents 1000)) ∷ at_ 12 (settles 0 (cents 1)) ∷ at_ 13 (sends 1 (prepare c 100) (Some 0)) ∷ at_ 14 (sends 1 (prepare c 2) (Some 0))
    ∷ at_ 15 (answer 3 (peer_reply.Reject (codes "F99"))) ∷ at_ 16 (close 2 Refused) ∷ at_ 17 (close 2 Accepted) ∷ at_ 18 (ask 0) ∷ at_ 19 (sends 0 (prepare c 50) (Some 1))
    ∷ at_ 29000 expire ∷ at_ 29000 expire ∷ []

-- what is answered, where the credit has the number kept, and the first entry that the calls book the number first
abbrev pub answered : ℕ → ℕ → List CallReply
answered kept first =
    of_ask (Err (ask_fault.NotDue (pos 200))) ∷ of_credit (Ok (record { number = kept; amount = 1000; fresh = false })) ∷ of_credit (Err (credit_fault.KeyTaken kept))
    ∷ of_hold (Ok (record { number = first; to = 0; out = 99; deadline = pos (new_year + 29000) })) ∷ of_hold (Err (hold_fault.BelowLeast (negsuc 99)))
    ∷ of_answer (Ok (outcome.Released (first + 1) (cause.Peer (codes "F99")))) ∷ of_close (Ok (first + 2)) ∷ of_close (Err (record { closer = Some (first + 2) }))
    ∷ of_ask (Ok (record { number = first + 3; amount = 800 })) ∷ of_hold (Ok (record { number = first + 4; to = 1; out = 50; deadline = pos (new_year + 29000) }))
    ∷ of_expire (Some (first + 4)) ∷ of_expire None ∷ []

-- both answer so, each by its own numbers
pub record AlikeRow (c : List ℕ) : Type 0 where
  pub later : replies_to (next_book (booked c) after_ (pos (new_year + 5))) (calls c) ≡ answered 1 3
  pub before : replies_to (by_config (booked c) after_) (calls_before (booked c) after_ (pos (new_year + 5)) (calls c)) ≡ answered 0 4
  pub numbers : map (reply_with (before_of (booked c) after_ (pos (new_year + 5)))) (answered 1 3) ≡ answered 0 4
