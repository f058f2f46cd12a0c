use Rattle.std.proofs.Common.{drop, sym, ◌∙◌, subst, refl, arith}
use Rattle.ilp_http.specs.Layout.{HasLineFeed}
use Rattle.ilp_intake.specs.Incoming.{Wants}
use Rattle.std.proofs.Math.Logic.{∥∥₁_map}
use Rattle.ilp_intake.proofs.IncomingLemmas.{Wants-append, wants-added, seen_within, none_in_head, none_in_body, whole_in_body}
use Rattle.ilp_intake.proofs.incoming.Incoming.add.Goals as goal

pub invariant_of-self-clause-wants : goal.invariant_of-self-clause-wants
invariant_of-self-clause-wants c =
    let before = c.args.self.now in
    subst (λ octets. ∥ Wants octets before.limit before.wanted ∥₁) (sym c.extend_from_slice.ensures.items)
    (wants-added before.octets.items _ _ before.limit before.wanted before.wants)

pub may_hold_head-requires : goal.may_hold_head-requires
may_hold_head-requires c =
    let before = c.args.self.now in
    let wants = subst (λ octets. ∥ Wants octets before.limit before.wanted ∥₁) (sym (c.as_slice.ensures.value ∙ c.in_ok-extend_from_slice.ensures.items))
    (∥∥₁_map before.wants (Wants-append before.octets.items _ before.limit before.wanted)) in
    seen_within _ before.limit c.in-LineFeed.seen before.wanted c.in-LineFeed.is wants

pub returns-in-LineFeed-2-clause-told : goal.returns-in-LineFeed-2-clause-told
returns-in-LineFeed-2-clause-told c =
    let before = c.args.self.now in
    let wants = subst (λ octets. ∥ Wants octets before.limit before.wanted ∥₁) (sym c.in_ok-extend_from_slice.ensures.items)
    (∥∥₁_map before.wants (Wants-append before.octets.items _ before.limit before.wanted)) in
    let none = subst (λ octets. ¬ (HasLineFeed (drop c.in-LineFeed.seen octets))) c.as_slice.ensures.value (c.if-may_hold_head.ensures refl) in
    none_in_head _ before.limit c.in-LineFeed.seen before.wanted c.in-LineFeed.is wants none

pub returns-in-Body-clause-told : goal.returns-in-Body-clause-told
returns-in-Body-clause-told c =
    let before = c.args.self.now in
    let wants = subst (λ octets. ∥ Wants octets before.limit before.wanted ∥₁) (sym c.in_ok-extend_from_slice.ensures.items)
    (∥∥₁_map before.wants (Wants-append before.octets.items _ before.limit before.wanted)) in
    none_in_body _ before.limit before.wanted c.in-Body.is wants (omega arith)

pub returns-in-Body-2-clause-told : goal.returns-in-Body-2-clause-told
returns-in-Body-2-clause-told c =
    let before = c.args.self.now in
    let wants = subst (λ octets. ∥ Wants octets before.limit before.wanted ∥₁) (sym c.in_ok-extend_from_slice.ensures.items)
    (∥∥₁_map before.wants (Wants-append before.octets.items _ before.limit before.wanted)) in
    whole_in_body _ before.limit before.wanted c.in-Body.is wants (omega arith)
