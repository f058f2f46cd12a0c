use Rattle.std.proofs.Common.{◌≡◌, Bool, List, Option, subst, rules, inl, inr, to_z, of_z, true, sym, ap, refl}
use Rattle.std.specs.Prelude.{FitsSigned, Ok, Err}
use Rattle.std.specs.Int.{w64}
use Rattle.std.proofs.lemmas.Int.{to_z-of_z}
use Rattle.ilp_packet.specs.Packet.{plain_prepare}
use Rattle.ilp_journal.specs.Journal.{Entries}
use Rattle.ilp_desk.specs.Portion.{Portion}
use Rattle.ilp_link_traits.specs.Links.{Tells}
use Rattle.ilp_keeping.specs.Keeping.{ToKeeper, asked}
use Rattle.ilp_workers.specs.Forwarding.{order, IsHeldAt}
use Rattle.ilp_workers.proofs.Sessions.{held_raises, refused_raises_none, held_on_its_way}
use Rattle.ilp_workers.proofs.parts.Parts.hold.Given as given
use Rattle.ilp_workers.proofs.parts.Parts.hold.Goals as goal

-- the keeper said that entries are kept, and was not asked again
says_kept : (before between after : Option (List ToKeeper)) (said : Bool) → said ≡ true → Tells before (asked said) between → after ≡ between → Tells before (asked true) after
says_kept before between after said is tells same = subst (λ k. Tells before (asked true) k) (sym same) (subst (λ s. Tells before (asked s) between) is tells)

-- memory was denied
pub returns-in_default-clause-refused : goal.returns-in_default-clause-refused
returns-in_default-clause-refused g c =
    let said : c.keeps.result ≡ true = search rules in
    inr (inl (record {
      keeps = says_kept (g.K.Keeper.told c.args.self.now.keeper) (g.K.Keeper.told c.keeps.new.self) (g.K.Keeper.told c.make_room.new.self.keeper) c.keeps.result said c.keeps.ensures (ap g.K.Keeper.told c.make_room.ensures.kept.1);
      moments = ap g.C.Clock.told c.make_room.ensures.clock;
      seen = c.make_room.ensures.kept.0;
      named = refl;
    }))

-- the hold is the one that the session booked, by the share and the receipt that the worker had
pub returns-in-Ok-hold_shown-clause-held : goal.returns-in-Ok-hold_shown-clause-held
returns-in-Ok-hold_shown-clause-held g c =
    let said : c.keeps.result ≡ true = search rules in
    let o = order g.J.Naming.desk c.args.from (plain_prepare c.args.packet.now) in
    let now = c.now-now.result in
    let held = c.in-Ok-hold_shown.held in
    let seen = c.args.self.now.receipt in
    let shown = c.hold_shown.new.receipt in
    let fits : FitsSigned w64 now = search rules in
    let at : IsHeldAt o now seen shown c.args.self.now.share c.hold_shown.new.share (Ok held) =
    subst (λ t. IsHeldAt o t seen shown c.args.self.now.share c.hold_shown.new.share (Ok held)) (to_z-of_z w64 now fits)
    (subst (λ (j : Entries). IsHeldAt o (to_z w64 (of_z w64 now)) j shown c.args.self.now.share c.hold_shown.new.share (Ok held)) c.make_room.ensures.kept.0
    (subst (λ (s : Portion). IsHeldAt o (to_z w64 (of_z w64 now)) c.make_room.new.self.receipt shown s c.hold_shown.new.share (Ok held)) c.make_room.ensures.share c.in-Ok-hold_shown.ensures)) in
    record {
      keeps = says_kept (g.K.Keeper.told c.args.self.now.keeper) (g.K.Keeper.told c.keeps.new.self) (g.K.Keeper.told c.make_room.new.self.keeper) c.keeps.result said c.keeps.ensures (ap g.K.Keeper.told c.make_room.ensures.kept.1);
      now = now;
      asked = subst (λ k. Tells (g.C.Clock.told k) now (g.C.Clock.told c.now-now.new.self)) c.make_room.ensures.clock c.now-now.ensures;
      booked = at;
      raised = held_raises o now seen shown c.args.self.now.share c.hold_shown.new.share held at;
      terms = held_on_its_way o now seen shown c.args.self.now.share c.hold_shown.new.share held at;
      records = c.make_room.ensures.records;
    }

-- a book refused it
refused : (g : given.Over) (c : goal.After-of_fault g)
    → IsHeldAt (order g.J.Naming.desk c.args.from (plain_prepare c.args.packet.now)) c.now-now.result c.args.self.now.receipt c.hold_shown.new.receipt c.args.self.now.share c.hold_shown.new.share (Err c.in-Err.fault)
refused g c =
    let o = order g.J.Naming.desk c.args.from (plain_prepare c.args.packet.now) in
    let now = c.now-now.result in
    let fault = c.in-Err.fault in
    let shown = c.hold_shown.new.receipt in
    let fits : FitsSigned w64 now = search rules in
    subst (λ t. IsHeldAt o t c.args.self.now.receipt shown c.args.self.now.share c.hold_shown.new.share (Err fault)) (to_z-of_z w64 now fits)
    (subst (λ (j : Entries). IsHeldAt o (to_z w64 (of_z w64 now)) j shown c.args.self.now.share c.hold_shown.new.share (Err fault)) c.make_room.ensures.kept.0
    (subst (λ (s : Portion). IsHeldAt o (to_z w64 (of_z w64 now)) c.make_room.new.self.receipt shown s c.hold_shown.new.share (Err fault)) c.make_room.ensures.share c.in-Err.ensures))

pub returns-in-Err-clause-refused : goal.returns-in-Err-clause-refused
returns-in-Err-clause-refused g c =
    let said : c.keeps.result ≡ true = search rules in
    inr (inr (record {
      keeps = says_kept (g.K.Keeper.told c.args.self.now.keeper) (g.K.Keeper.told c.keeps.new.self) (g.K.Keeper.told c.make_room.new.self.keeper) c.keeps.result said c.keeps.ensures (ap g.K.Keeper.told c.make_room.ensures.kept.1);
      now = c.now-now.result;
      fault = c.in-Err.fault;
      asked = subst (λ k. Tells (g.C.Clock.told k) c.now-now.result (g.C.Clock.told c.now-now.new.self)) c.make_room.ensures.clock c.now-now.ensures;
      refused = refused g c;
      named = c.of_fault.ensures.value;
    }))

pub returns-in-Err-clause-share : goal.returns-in-Err-clause-share
returns-in-Err-clause-share g c =
    refused_raises_none (order g.J.Naming.desk c.args.from (plain_prepare c.args.packet.now)) c.now-now.result c.args.self.now.receipt c.hold_shown.new.receipt c.args.self.now.share c.hold_shown.new.share c.in-Err.fault (refused g c)
