use Rattle.std.proofs.Common.{◌≡◌, ◌<◌, ◌≤◌, true, false, Option, Some, sym, ap, ◌∙◌, subst, rules, arith}
use Rattle.std.specs.Prelude.{FitsSigned, ◌≢◌, ◌<ℤ◌, IfSome}
use Rattle.std.specs.Int.{w128}
use Rattle.std.proofs.lemmas.Bool.{ltb-true, ltb-false, lt-ltb}
use Rattle.std.proofs.lemmas.Int.{to_z-of_z}
use Rattle.ilp_accounts.specs.Configuration.{peer_at}
use Rattle.ilp_accounts.specs.declared.peer.Levels.{Levels}
use Rattle.ilp_journal.specs.Journal.{open_asks}
use Rattle.ilp_journal.specs.Balance.{balance}
use Rattle.ilp_order.proofs.RefusalLemmas.{some_same}
use Rattle.ilp_rules.specs.Book.{PlainBook}
use Rattle.ilp_rules.specs.Configured.{IsKnown, peer_assets}
use Rattle.ilp_rules.specs.Judging.{behind_all}
use Rattle.ilp_rules.specs.Lawful.{IsDueAsk}
use Rattle.ilp_rules.specs.Heads.{most_open_asks}
use Rattle.ilp_rules.specs.Lawful.{due_amount}
use Rattle.ilp_rules.proofs.Judging.{is_due, not_due, levels_ordered}
use Rattle.ilp_rules.proofs.Known.{peer_valid}
use Rattle.ilp_rules.proofs.carrying.Carrying.judge_asked.Goals as goal

pub due_amount-requires-clause-ordered : goal.due_amount-requires-clause-ordered
due_amount-requires-clause-ordered g c =
    let C = c.self.inside.config in
    let peer = c.args.ask.now.peer in
    let known : IsKnown C peer = omega (arith, c.if-peers-ask.false, c.peers.ensures.count) in
    subst (λ (o : Option Levels). IfSome o (λ (v : Levels). v.settle_to <ℤ v.threshold)) (sym c.levels.ensures)
    (levels_ordered (peer_at C peer).levels (peer_at C peer) (peer_valid C peer c.self.invariant.valid known).levels)

pub returns-then-not-are_few_open-clause-err : goal.returns-then-not-are_few_open-clause-err
returns-then-not-are_few_open-clause-err g c =
    let C = c.self.inside.config in
    let j = c.self.inside.journal.entries in
    let is : c.are_few_open.result ≡ false = search rules in
    let many = c.are_few_open.ensures (peer_assets C) behind_all j c.self.invariant.tallied in
    subst (λ (b : PlainBook). IsDueAsk b.config b.entries c.args.ask.now → ⊥) c.self.view_is
    (λ (due : IsDueAsk C j c.args.ask.now). let clash : false ≡ true = sym is ∙ (many ∙ lt-ltb _ _ due.few_open) in cc)

pub returns-in_default-clause-err : goal.returns-in_default-clause-err
returns-in_default-clause-err g c =
    let C = c.self.inside.config in
    let j = c.self.inside.journal.entries in
    let peer = c.args.ask.now.peer in
    let owed_fits : FitsSigned w128 c.balance-balance.result = search rules in
    let owed = to_z-of_z w128 c.balance-balance.result owed_fits ∙ c.balance-balance.ensures.value (peer_assets C) behind_all j c.self.invariant.tallied in
    let told : due_amount (balance j peer) (peer_at C peer).levels ≡ c.due_amount.result =
    sym (c.due_amount.ensures ∙ (ap (λ z. due_amount z c.levels.result) owed ∙ ap (due_amount (balance j peer)) c.levels.ensures)) in
    let other : due_amount (balance j peer) (peer_at C peer).levels ≢ Some c.args.ask.now.amount = λ is. c.in_default.not-Some c.args.ask.now.amount (sym told ∙ is) in
    subst (λ (b : PlainBook). IsDueAsk b.config b.entries c.args.ask.now → ⊥) c.self.view_is (not_due C j c.args.ask.now other)

pub returns-then-amount-ask-clause-err : goal.returns-then-amount-ask-clause-err
returns-then-amount-ask-clause-err g c =
    let C = c.self.inside.config in
    let j = c.self.inside.journal.entries in
    let peer = c.args.ask.now.peer in
    let owed_fits : FitsSigned w128 c.balance-balance.result = search rules in
    let owed = to_z-of_z w128 c.balance-balance.result owed_fits ∙ c.balance-balance.ensures.value (peer_assets C) behind_all j c.self.invariant.tallied in
    let told : due_amount (balance j peer) (peer_at C peer).levels ≡ c.due_amount.result =
    sym (c.due_amount.ensures ∙ (ap (λ z. due_amount z c.levels.result) owed ∙ ap (due_amount (balance j peer)) c.levels.ensures)) in
    let other : due_amount (balance j peer) (peer_at C peer).levels ≢ Some c.args.ask.now.amount =
    λ is. c.if-amount-ask.true (some_same _ _ (sym c.in-Some.is ∙ (sym told ∙ is))) in
    subst (λ (b : PlainBook). IsDueAsk b.config b.entries c.args.ask.now → ⊥) c.self.view_is (not_due C j c.args.ask.now other)

pub returns-then-not-are_few_open-clause-broken : goal.returns-then-not-are_few_open-clause-broken
returns-then-not-are_few_open-clause-broken g c =
    let j = c.self.inside.journal.entries in
    let peer = c.args.ask.now.peer in
    let is : c.are_few_open.result ≡ false = search rules in
    let many = c.are_few_open.ensures (peer_assets c.self.inside.config) behind_all j c.self.invariant.tallied in
    λ _. subst (λ (b : PlainBook). most_open_asks ≤ open_asks b.entries peer) c.self.view_is (ltb-false (open_asks j peer) most_open_asks (sym many ∙ is))

pub returns-in_default-clause-broken : goal.returns-in_default-clause-broken
returns-in_default-clause-broken g c =
    let C = c.self.inside.config in
    let j = c.self.inside.journal.entries in
    let peer = c.args.ask.now.peer in
    let owed_fits : FitsSigned w128 c.balance-balance.result = search rules in
    let owed = to_z-of_z w128 c.balance-balance.result owed_fits ∙ c.balance-balance.ensures.value (peer_assets C) behind_all j c.self.invariant.tallied in
    let told : due_amount (balance j peer) (peer_at C peer).levels ≡ c.due_amount.result =
    sym (c.due_amount.ensures ∙ (ap (λ z. due_amount z c.levels.result) owed ∙ ap (due_amount (balance j peer)) c.levels.ensures)) in
    λ _. subst (λ (b : PlainBook). due_amount (balance b.entries peer) (peer_at b.config peer).levels ≢ Some c.args.ask.now.amount) c.self.view_is
    (λ is. c.in_default.not-Some c.args.ask.now.amount (sym told ∙ is))

pub returns-then-amount-ask-clause-broken : goal.returns-then-amount-ask-clause-broken
returns-then-amount-ask-clause-broken g c =
    let C = c.self.inside.config in
    let j = c.self.inside.journal.entries in
    let peer = c.args.ask.now.peer in
    let owed_fits : FitsSigned w128 c.balance-balance.result = search rules in
    let owed = to_z-of_z w128 c.balance-balance.result owed_fits ∙ c.balance-balance.ensures.value (peer_assets C) behind_all j c.self.invariant.tallied in
    let told : due_amount (balance j peer) (peer_at C peer).levels ≡ c.due_amount.result =
    sym (c.due_amount.ensures ∙ (ap (λ z. due_amount z c.levels.result) owed ∙ ap (due_amount (balance j peer)) c.levels.ensures)) in
    λ _. subst (λ (b : PlainBook). due_amount (balance b.entries peer) (peer_at b.config peer).levels ≢ Some c.args.ask.now.amount) c.self.view_is
    (λ is. c.if-amount-ask.true (some_same _ _ (sym c.in-Some.is ∙ (sym told ∙ is))))

pub returns-clause-ok : goal.returns-clause-ok
returns-clause-ok g c =
    let C = c.self.inside.config in
    let j = c.self.inside.journal.entries in
    let peer = c.args.ask.now.peer in
    let owed_fits : FitsSigned w128 c.balance-balance.result = search rules in
    let owed = to_z-of_z w128 c.balance-balance.result owed_fits ∙ c.balance-balance.ensures.value (peer_assets C) behind_all j c.self.invariant.tallied in
    let told : due_amount (balance j peer) (peer_at C peer).levels ≡ c.due_amount.result =
    sym (c.due_amount.ensures ∙ (ap (λ z. due_amount z c.levels.result) owed ∙ ap (due_amount (balance j peer)) c.levels.ensures)) in
    let known : IsKnown C peer = omega (arith, c.if-peers-ask.false, c.peers.ensures.count) in
    let few : open_asks j peer < most_open_asks =
    let is : c.are_few_open.result ≡ true = search rules in
    ltb-true _ _ (sym (c.are_few_open.ensures (peer_assets C) behind_all j c.self.invariant.tallied) ∙ is) in
    subst (λ (b : PlainBook). IsDueAsk b.config b.entries c.args.ask.now) c.self.view_is
    (is_due C j c.args.ask.now c.self.invariant.valid known few (told ∙ (c.in-Some.is ∙ ap Some c.if-amount-ask.false)))
