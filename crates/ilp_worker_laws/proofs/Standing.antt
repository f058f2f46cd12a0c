-- A Prepare that no moment and no book would accept is refused as that.
use Rattle.std.proofs.Common.{◌≡◌, ℕ, ℤ, Bool, true, false, ◌==◌, Option, Some, None, inl, inr, refl, sym, ap, ◌∙◌, subst}
use Rattle.std.specs.Prelude.{Result, Ok, Err, nat_lt, if◌then◌else◌}
use Rattle.ilp_order.specs.Refusals.{◌>>=◌, refuse_if, found_or}
use Rattle.ilp_packet.specs.Packet.{PlainPrepare, prepare, Spells}
use Rattle.ilp_packet.proofs.ReadingLemmas.{one_packet}
use Rattle.ilp_accounts.specs.Configuration.{Configuration, peer_at}
use Rattle.ilp_journal.specs.declared.entry.Hold.{Hold}
use Rattle.ilp_journal.specs.Journal.{Entries}
use Rattle.ilp_book.specs.declared.calls.Held.{Held}
use Rattle.ilp_book.specs.declared.fault.HoldFault.{HoldFault}
use Rattle.ilp_book.specs.declared.fault.HoldFault.TheVariants as hold_fault
use Rattle.ilp_book.specs.Book.{by, moment_at, Does}
use Rattle.ilp_book.specs.HoldStep.{Incoming, incoming, hold_terms, hold_step, growth_of}
use Rattle.ilp_book.proofs.HoldSteps.{hold_refused}
use Rattle.ilp_desk.specs.Portion.{Portion}
use Rattle.ilp_replies.specs.declared.answer.Receipt.{Receipt}
use Rattle.ilp_replies.specs.declared.rejects.LocalReject.TheVariants as local
use Rattle.ilp_replies.specs.Rejects.{reject_of_fault}
use Rattle.ilp_workers.specs.Worker.{PlainWorker}
use Rattle.ilp_workers.specs.Forwarding.{Order, order, IsHeldAt, IsForwardedBy}
use Rattle.ilp_replies.specs.Messages.{IsForEngine}
use Rattle.ilp_workers.specs.Arrivals.{Arrival, Forwards}
use Rattle.ilp_worker_laws.specs.Outcome.{route_refusal, standing_refusal, IsToldOwn, IsRefusedAs}

-- what comes first refuses, whatever would follow
refuses : (large : Bool) (max from : ℕ) (route : Option ℕ) (next : ℕ → Result Hold HoldFault) (fault : HoldFault)
    → (if large then Some (hold_fault.AmountTooLarge max) else route_refusal from route) ≡ Some fault
    → (refuse_if large (hold_fault.AmountTooLarge max) >>= λ _. found_or route hold_fault.NoRoute >>= λ to. refuse_if (to == from) hold_fault.BackToSender >>= λ _. next to) ≡ Err fault
refuses true max from route next fault e = ap Err (some_is e)
  where
    some_is : {x y : HoldFault} → ◌≡◌ {A = Option HoldFault} (Some x) (Some y) → x ≡ y
    some_is e = cc
refuses false max from None next fault e = cc
refuses false max from (Some to) next fault e = by_test (to == from) e
  where
    by_test : (b : Bool) → ◌≡◌ {A = Option HoldFault} (if b then Some hold_fault.BackToSender else None) (Some fault) → (refuse_if b hold_fault.BackToSender >>= λ _. next to) ≡ Err fault
    by_test true e = cc
    by_test false e = absurd cc

-- so the terms of a hold are refused at every moment
refused_terms : (C : Configuration) (m : ℤ) (sent : Incoming) (fault : HoldFault) → standing_refusal C sent ≡ Some fault → hold_terms C m sent ≡ Err fault
unfolding hold_terms
refused_terms C m sent fault e = refuses (nat_lt (peer_at C sent.from).max_packet sent.packet.amount) (peer_at C sent.from).max_packet sent.from sent.route _ fault e

module _ (o : Order) (fault : HoldFault) (standing : standing_refusal o.desk.config (incoming o.desk.config o.from o.packet) ≡ Some fault) where
  -- and every book of the desk replies that
  replies : (now : ℤ) (seen seen' : Entries) (before after : Portion) (reply : Result Held HoldFault) → IsHeldAt o now seen seen' before after reply → reply ≡ Err fault
  replies now seen seen' before after reply at =
      let book = at.0 in
      let caller = by before.actor now in
      let stands : standing_refusal book.config (incoming book.config o.from o.packet) ≡ Some fault =
      subst (λ C. standing_refusal C (incoming C o.from o.packet) ≡ Some fault) (sym at.2.found.config) standing in
      let terms = refused_terms book.config (moment_at book.entries now) (incoming book.config o.from o.packet) fault stands in
      let does : Does book at.1 reply (hold_step book caller (incoming book.config o.from o.packet) (growth_of reply)) = at.3 in
      let refused : Does book book (Err fault) (hold_step book caller (incoming book.config o.from o.packet) (growth_of reply)) = hold_refused book caller (incoming book.config o.from o.packet) (growth_of reply) fault terms in
      does.reply ∙ sym refused.reply

  told : (before after : PlainWorker) (receipt : Receipt) (hold answer : Option ℕ) → receipt.hold ≡ hold → receipt.answer ≡ answer → IsForwardedBy o before after hold answer receipt.rejected
      → IsRefusedAs o.desk after receipt (reject_of_fault o.packet.amount fault)
  told before after receipt None None holds answers refused =
      elim refused.reason [
        | inl unkept ↦ as_denied unkept.named
        | inr asked ↦
            elim asked [
              | inl denied ↦ as_denied denied.named
              | inr by_book ↦
                  let same : by_book.fault ≡ fault = err_is (replies by_book.now before.seen after.seen before.share after.share (Err by_book.fault) by_book.refused) in
                  record {
                    reply = inl (subst (λ w. IsToldOwn o.desk after receipt w) (by_book.named ∙ ap (reject_of_fault o.packet.amount) same) (refused.told, refused.named));
                    holds = holds;
                    answers = answers;
                  }
            ]
      ]
    where
      as_denied : refused.why ≡ local.InternalError → IsRefusedAs o.desk after receipt (reject_of_fault o.packet.amount fault)
      as_denied is = record { reply = inr (subst (λ w. IsToldOwn o.desk after receipt w) is (refused.told, refused.named)); holds = holds; answers = answers }

      err_is : {x y : HoldFault} → ◌≡◌ {A = Result Held HoldFault} (Err x) (Err y) → x ≡ y
      err_is e = cc
  told before after receipt None (Some n) holds answers none = absurd none
  told before after receipt (Some hold) answer holds answers sent =
      absurd (never (replies sent.booked.now before.seen sent.between.seen before.share sent.between.share (Ok sent.held) sent.booked.booked))
    where
      never : {x : Held} → ◌≡◌ {A = Result Held HoldFault} (Ok x) (Err fault) → ⊥
      never e = cc

pub refused_as : (a : Arrival) (before after : PlainWorker) (receipt : Receipt) (packet : PlainPrepare) (fault : HoldFault) → Forwards a before after (Ok receipt) → Spells a.octets (prepare packet)
    → (¬ IsForEngine packet) → standing_refusal a.desk.config (incoming a.desk.config a.from packet) ≡ Some fault → IsRefusedAs a.desk after receipt (reject_of_fault packet.amount fault)
refused_as a before after receipt packet fault forwards spells other standing =
    let one = one_packet a.octets (prepare forwards.0) (prepare packet) forwards.1 spells in
    let same : forwards.0 ≡ packet = cc in
    elim forwards.2 [
      | inl forwarded ↦
          told (order a.desk a.from packet) fault standing before after receipt receipt.hold receipt.answer refl refl
          (subst (λ p. IsForwardedBy (order a.desk a.from p) before after receipt.hold receipt.answer receipt.rejected) same forwarded.1)
      | inr messaged ↦ absurd (other (ap (λ (p : PlainPrepare). p.destination) (sym same) ∙ messaged.0))
    ]
