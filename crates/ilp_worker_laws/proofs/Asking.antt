-- A message to a peer's engine in halves.
use Rattle.std.proofs.Common.{◌≡◌, ℕ, List, [], Option, Some, None, refl, sym, ◌∙◌, subst}
use Rattle.std.specs.Prelude.{IsSome, Result, Ok, Err}
use Rattle.ilp_accounts.specs.Configuration.{Configuration}
use Rattle.ilp_link_traits.specs.Links.{Tells, sending}
use Rattle.ilp_replies.specs.declared.messages.MessageFault.{MessageFault}
use Rattle.ilp_replies.specs.declared.messages.MessageFault.TheVariants as message_fault
use Rattle.ilp_workers.specs.Worker.{PlainWorker, replied}
use Rattle.ilp_replies.specs.Messages.{peer_answer_of, message_expiry}
use Rattle.ilp_workers.specs.Messaging.{IsPassedOn, IsMessageOver, IsTried}
use Rattle.ilp_replies.specs.EngineMessage.{PlainPeerMessage}
use Rattle.ilp_workers.specs.MessageHalves.{IsAddressed, IsPeerAsked}

-- the peer was handed the packet
passed : (C : Configuration) (peer : ℕ) (octets : List ℕ) (before addressed after : PlainWorker) (m : PlainPeerMessage) (came : Option (List ℕ))
    → (a : IsAddressed C peer octets before addressed m) → IsPeerAsked m came addressed after → IsPassedOn C peer octets a.now before.sent after.sent came
passed C peer octets before addressed after m came a hands =
    let expires = message_expiry C a.now in
    let onto : Tells addressed.sent (sending peer a.packet expires came) after.sent =
    subst (λ (x : PlainPeerMessage). Tells addressed.sent (sending x.to x.packet x.deadline came) after.sent) a.message hands.handed in
    record {
      packet = a.packet;
      spelled = a.spelled;
      handed = subst (λ s. Tells s (sending peer a.packet expires came) after.sent) a.untouched.links.0 onto;
    }

tried : (C : Configuration) (peer : ℕ) (octets reply : List ℕ) (before addressed after : PlainWorker) (m : PlainPeerMessage) (came : Option (List ℕ)) (result : Result (Unit {0}) MessageFault)
    → (a : IsAddressed C peer octets before addressed m) → IsPeerAsked m came addressed after → IsMessageOver C peer octets a.now before (replied after reply) result → IsTried C peer octets before (replied after reply) result
tried C peer octets reply before addressed after m came result a hands over =
    let same = a.untouched in
    record {
      within = a.within;
      now = a.now;
      asked = subst (λ t. Tells before.moments a.now t) (sym hands.moments) a.asked;
      over = over;
      share = hands.share ∙ same.share;
      records = hands.records ∙ same.records;
      engine = hands.engine ∙ same.links.1;
      seen = hands.seen ∙ same.seen;
      kept = hands.kept ∙ same.kept;
    }

pub answered_by_halves : (C : Configuration) (peer : ℕ) (octets : List ℕ) (before addressed after : PlainWorker) (m : PlainPeerMessage) (reply : List ℕ)
    → IsAddressed C peer octets before addressed m → IsPeerAsked m (Some reply) addressed after → IsSome (peer_answer_of (Some reply)) → IsTried C peer octets before (replied after reply) (Ok tt)
answered_by_halves C peer octets before addressed after m reply a hands answers =
    tried C peer octets reply before addressed after m (Some reply) (Ok tt) a hands (passed C peer octets before addressed after m (Some reply) a hands, answers)

pub unanswered_by_halves : (C : Configuration) (peer : ℕ) (octets : List ℕ) (before addressed after : PlainWorker) (m : PlainPeerMessage) (came : Option (List ℕ))
    → IsAddressed C peer octets before addressed m → IsPeerAsked m came addressed after → peer_answer_of came ≡ None → IsTried C peer octets before (replied after []) (Err message_fault.NoAnswer)
unanswered_by_halves C peer octets before addressed after m came a hands none =
    tried C peer octets [] before addressed after m came (Err message_fault.NoAnswer) a hands (came, passed C peer octets before addressed after m came a hands, none, refl)
