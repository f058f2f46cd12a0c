use Rattle.std.proofs.Common.{ap, refl, subst, ◌∙◌}
use Rattle.std.specs.Prelude.{IsSome, option_and_then}
use Rattle.std.proofs.lemmas.Result.{MatchResult-from_err}
use Rattle.ilp_settlement.proofs.KeyLemmas.{stays, under, under_none, keeps}
use Rattle.ilp_settlement.proofs.key_table.KeyTable.keep.Goals as goal

-- no memory for a further key of the peer
pub returns-in_err-insert-in-Some-clause-err : goal.returns-in_err-insert-in-Some-clause-err
returns-in_err-insert-in-Some-clause-err g c =
    let after = c.insert.new.self in
    let same = stays c.self.inside.peers (c.get_mut.follows.lender after) c.args.peer c.in-Some.keys.now after c.in-Some.ensures.value c.in_err-insert-in-Some.ensures.err (c.get_mut.follows.holds after).0 in
    let failed = c.from_residual-in_err-insert-in-Some in
    MatchResult-from_err failed.result _ _ failed.ensures.0 (λ _. same ∙ c.self.view_is)

-- a further key of the peer
pub returns-in_ok-insert-in-Some-clause-ok : goal.returns-in_ok-insert-in-Some-clause-ok
returns-in_ok-insert-in-Some-clause-ok g c =
    let after = c.insert.new.self in
    let there = c.in-Some.ensures.value in
    rw (← c.self.view_is, ← c.in_ok-key.ensures.items)
    (keeps c.self.inside.peers (c.get_mut.follows.lender after) c.args.peer c.in_ok-key.key c.args.entry c.in-Some.keys.now after
    (λ k. ap (option_and_then (under k)) there)
    c.in_ok-insert-in-Some.ensures.updates
    ((c.get_mut.follows.holds after).3 (subst IsSome there refl)))

-- the first key of the peer
pub returns-in_ok-insert-in-None-2-clause-ok : goal.returns-in_ok-insert-in-None-2-clause-ok
returns-in_ok-insert-in-None-2-clause-ok g c =
    let before = c.new-keys.result in
    rw (← c.self.view_is, ← c.in_ok-key.ensures.items)
    (keeps c.self.inside.peers c.insert-in-None-2.new.self c.args.peer c.in_ok-key.key c.args.entry before c.insert-in-None.new.self
    (λ k. under_none k before c.new-keys.ensures.empty ∙ ap (option_and_then (under k)) c.in-None.ensures.value)
    c.in_ok-insert-in-None.ensures.updates
    (rw c.get_mut.follows.holds-at-none at c.in_ok-insert-in-None-2.ensures.updates))
