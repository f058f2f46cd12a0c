use Rattle.std.proofs.Common.{◌≡◌, ◌+◌, sym, ap, ◌∙◌, subst, arith}
use Rattle.std.specs.Prelude.{Ok}
use Rattle.slab.specs.Slab.{Slab, slab_len}
use Rattle.ilp_workers.specs.declared.in_flight.Begun.{Begun}
use Rattle.ilp_workers.specs.Arrivals.{arrival}
use Rattle.ilp_workers.specs.Pending.{PlainPending}
use Rattle.ilp_workers.specs.Halves.{StartsWaiting, Begins, waiting_more}
use Rattle.ilp_flight.proofs.Keys.{AreOf, one_more, roomier, updated}
use Rattle.ilp_flight.proofs.flight.Flight.begin.Goals as goal

-- one more waits, of this worker
pub invariant_of-self-in-Ok-Waits : goal.invariant_of-self-in-Ok-Waits
invariant_of-self-in-Ok-Waits g c =
    let old = c.args.self.now.worker in
    let new = c.begin.new.self in
    let a = arrival g.J.Naming.desk c.args.from c.args.octets.now in
    let waits : StartsWaiting a old new c.in-Ok-Waits.pending =
    subst (λ (b : Begun _ _). Begins a old new (Ok b)) c.in-Ok-Waits.field-0-is c.in-Ok-Waits.ensures.begun in
    let more : new.pending ≡ old.pending + 1 =
    subst (λ (b : Begun _ _). new.pending ≡ old.pending + waiting_more (Ok b)) c.in-Ok-Waits.field-0-is c.in-Ok-Waits.ensures.pending in
    let kept = ap (λ (s : Slab PlainPending). slab_len s) c.in-Ok.ensures.rest_kept in
    let before : AreOf c.args.self.now.waiting new.share.actor = λ key p at. c.args.self.now.mine key p at ∙ sym c.in-Ok-Waits.ensures.actor in
    let reserved : AreOf c.reserve.new.self new.share.actor = subst (λ (s : Slab PlainPending). AreOf s new.share.actor) (sym c.in-Ok.ensures.rest_kept) before in
    record {
      counted = omega (arith, c.insert_reserved-key.ensures.len, kept, c.args.self.now.counted, more);
      mine = one_more c.reserve.new.self c.insert_reserved-key.new.self c.insert_reserved-key.result new.share.actor c.in-Ok-Waits.pending c.insert_reserved-key.ensures.updates
          (ap (λ (p : PlainPending). p.actor) waits.3.waits ∙ sym c.in-Ok-Waits.ensures.actor) reserved;
    }

-- it waits under a key that was free
pub returns-in-Ok-Waits : goal.returns-in-Ok-Waits
returns-in-Ok-Waits g c =
    let old = c.args.self.now in
    let new = c.begin.new.self in
    let a = arrival g.J.Naming.desk c.args.from c.args.octets.now in
    let same = roomier old.waiting c.reserve.new.self c.in-Ok.ensures.rest_kept in
    record {
      packet = c.in-Ok-Waits.pending;
      free = sym (same c.insert_reserved-key.result) ∙ c.insert_reserved-key.ensures.was_vacant;
      waits = updated old.waiting c.reserve.new.self c.insert_reserved-key.new.self c.insert_reserved-key.result c.in-Ok-Waits.pending same c.insert_reserved-key.ensures.updates;
      starts = subst (λ (b : Begun _ _). Begins a old.worker new (Ok b)) c.in-Ok-Waits.field-0-is c.in-Ok-Waits.ensures.begun;
    }

-- none more waits where the engine here is to be asked
pub invariant_of-self-in-Asks-1 : goal.invariant_of-self-in-Asks-1
invariant_of-self-in-Asks-1 g c =
    let old = c.args.self.now.worker in
    let new = c.begin.new.self in
    let same : new.pending ≡ old.pending + 0 =
    subst (λ (b : Begun _ _). new.pending ≡ old.pending + waiting_more (Ok b)) c.in-Ok-Asks.field-0-is c.in-Ok-Asks.ensures.pending in
    let kept = ap (λ (s : Slab PlainPending). slab_len s) c.in-Ok.ensures.rest_kept in
    let before : AreOf c.args.self.now.waiting new.share.actor = λ key p at. c.args.self.now.mine key p at ∙ sym c.in-Ok-Asks.ensures.actor in
    record {
      counted = omega (arith, kept, c.args.self.now.counted, same);
      mine = subst (λ (s : Slab PlainPending). AreOf s new.share.actor) (sym c.in-Ok.ensures.rest_kept) before;
    }

-- and none where the sender is answered
pub invariant_of-self-in-Answered-1 : goal.invariant_of-self-in-Answered-1
invariant_of-self-in-Answered-1 g c =
    let old = c.args.self.now.worker in
    let new = c.begin.new.self in
    let same : new.pending ≡ old.pending + 0 =
    subst (λ (b : Begun _ _). new.pending ≡ old.pending + waiting_more (Ok b)) c.in-Ok-Answered.field-0-is c.in-Ok-Answered.ensures.pending in
    let kept = ap (λ (s : Slab PlainPending). slab_len s) c.in-Ok.ensures.rest_kept in
    let before : AreOf c.args.self.now.waiting new.share.actor = λ key p at. c.args.self.now.mine key p at ∙ sym c.in-Ok-Answered.ensures.actor in
    record {
      counted = omega (arith, kept, c.args.self.now.counted, same);
      mine = subst (λ (s : Slab PlainPending). AreOf s new.share.actor) (sym c.in-Ok.ensures.rest_kept) before;
    }
