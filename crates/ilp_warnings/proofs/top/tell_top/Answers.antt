use Rattle.std.proofs.Common.{sym, subst, rules}
use Rattle.ilp_warnings.specs.Meaning.{IsSocketAddress, IsClosed, IsShared}
use Rattle.ilp_warnings.specs.Complete.{KeepsAll}
use Rattle.ilp_warnings.proofs.Keeping.{on_ok, on_ok_both, must}
use Rattle.ilp_warnings.proofs.top.tell_top.Goals as goal

pub returns-clause-kept : goal.returns-clause-kept
returns-clause-kept c =
    on_ok c.tell-4.result
    (λ k w has. k w (c.in_ok-tell-3.ensures.kept w (c.in_ok-tell-2.ensures.kept w (c.in_ok-tell.ensures.kept w (c.in_ok-tell_address-2.ensures.kept w (c.in_ok-tell_address.ensures.kept w has))))))
    c.tell-4.ensures.kept

pub returns-clause-top : goal.returns-clause-top
returns-clause-top c =
    on_ok_both c.tell-4.result
    (λ k told.
    let after_holds : KeepsAll c.tell-3.new.told.items c.tell-4.new.told.items = λ w has. k w has in
    let after_shared : KeepsAll c.tell-2.new.told.items c.tell-4.new.told.items = λ w has. after_holds w (c.in_ok-tell-3.ensures.kept w has) in
    let after_open : KeepsAll c.tell.new.told.items c.tell-4.new.told.items = λ w has. after_shared w (c.in_ok-tell-2.ensures.kept w has) in
    let after_sides : KeepsAll c.tell_address-2.new.told.items c.tell-4.new.told.items = λ w has. after_open w (c.in_ok-tell.ensures.kept w has) in
    let after_listen : KeepsAll c.tell_address.new.told.items c.tell-4.new.told.items = λ w has. after_sides w (c.in_ok-tell_address-2.ensures.kept w has) in
    let settings = c.args.examined.config.now.settings in
    let shared = λ (h : IsShared settings.listen settings.engine_listen).
    subst (λ text. IsShared text c.engine_listen-engine_listen.result.now) (sym c.listen-listen.ensures)
    (subst (λ other. IsShared settings.listen other) (sym c.engine_listen-engine_listen.ensures) h) in
    record {
      listen = λ h. after_listen _ (c.in_ok-tell_address.ensures.told (λ is. h (subst IsSocketAddress c.listen-listen.ensures is)));
      engine_listen = λ h. after_sides _ (c.in_ok-tell_address-2.ensures.told (λ is. h (subst IsSocketAddress c.engine_listen-engine_listen.ensures is)));
      engines = λ h. after_open _ (c.in_ok-tell.ensures.told (must c.is_open.result (λ e. subst IsClosed c.engine_listen-engine_listen.ensures (c.is_open.ensures.closed e)) h));
      shared = λ h. after_shared _ (c.in_ok-tell-2.ensures.told (c.is_shared.ensures.1 (shared h)));
      holds = λ h. after_holds _ (c.in_ok-tell-3.ensures.told (search (rules, h)));
      no_routes = λ h. told (search (rules, h));
    })
    c.tell-4.ensures.kept c.tell-4.ensures.told
