use Rattle.std.proofs.Common.{◌≡◌, ◌<◌, ◌≤◌, true, false, List, ℕ, length, sym, ◌∙◌, subst, rules, arith}
use Rattle.std.specs.Prelude.{IsSome, IsTrue}
use Rattle.std.specs.List.{list_all}
use Rattle.std.proofs.lemmas.Bool.{ltb-true, ltb-false, lt-ltb}
use Rattle.ilp_journal.specs.declared.entry.What.TheVariants as what
use Rattle.ilp_journal.specs.Journal.{open_asks}
use Rattle.ilp_rules.specs.Book.{PlainBook}
use Rattle.ilp_rules.specs.Configured.{IsKnown, peer_assets}
use Rattle.ilp_rules.specs.Heads.{IsHead, IsOfPeriodFrom, StandsInHead, is_key_octet, most_open_asks, pending_at}
use Rattle.ilp_rules.specs.Judging.{behind_all}
use Rattle.ilp_rules.specs.Parts.{book_of}
use Rattle.ilp_rules.proofs.JudgingHeads.{waits}
use Rattle.ilp_rules.proofs.carrying.Carrying.judge_pending.Goals as goal

pub returns-then-not-are_few_open-clause-err : goal.returns-then-not-are_few_open-clause-err
returns-then-not-are_few_open-clause-err g c =
    let C = c.self.inside.config in
    let j = c.self.inside.journal.entries in
    let w = what.Pending c.args.peer c.args.amount c.args.key.now in
    let is : c.are_few_open.result ≡ false = search rules in
    let many = c.are_few_open.ensures (peer_assets C) behind_all j c.self.invariant.tallied in
    subst (λ (b : PlainBook). StandsInHead b.config b.period b.base b.entries w → ⊥) c.self.view_is
    (λ (stands : StandsInHead C c.self.inside.period behind_all j w). let clash : false ≡ true = sym is ∙ (many ∙ lt-ltb _ _ stands.rule.1) in cc)

pub returns-then-not-are_few_open-clause-broken : goal.returns-then-not-are_few_open-clause-broken
returns-then-not-are_few_open-clause-broken g c =
    let j = c.self.inside.journal.entries in
    let is : c.are_few_open.result ≡ false = search rules in
    let many = c.are_few_open.ensures (peer_assets c.self.inside.config) behind_all j c.self.invariant.tallied in
    λ _. subst (λ (b : PlainBook). most_open_asks ≤ open_asks b.entries c.args.peer) c.self.view_is (ltb-false (open_asks j c.args.peer) most_open_asks (sym many ∙ is))

pub returns-clause-ok : goal.returns-clause-ok
returns-clause-ok g c =
    let C = c.self.inside.config in
    let book = book_of C c.self.inside.period behind_all c.self.inside.journal in
    let j = book.entries in
    let peer = c.args.peer in
    let key = c.args.key.now in
    let same = c.as_slice-key.ensures.octets in
    let known : IsKnown C peer = omega (arith, c.if-peers-peer.false, c.peers.ensures.count) in
    let few : open_asks j peer < most_open_asks =
    let is : c.are_few_open.result ≡ true = search rules in
    ltb-true _ _ (sym (c.are_few_open.ensures (peer_assets C) behind_all j c.self.invariant.tallied) ∙ is) in
    let begun : length j < behind_all = subst (λ (b : PlainBook). length b.entries < b.base) (sym c.self.view_is) c.judge_head.ensures.begun in
    let head = subst (λ (b : PlainBook). (0 < b.period) × IsHead b.entries) (sym c.self.view_is) c.in_ok-judge_head.ensures.ok in
    let seen : c.are_key_octets.result ≡ true = search rules in
    let visible : IsTrue (list_all is_key_octet key) = subst (λ (k : List ℕ). IsTrue (list_all is_key_octet k)) same (sym c.are_key_octets.ensures ∙ seen) in
    let single : ¬ (IsSome (pending_at j key)) = λ some.
    let yes : c.is_brought_under.result ≡ true = c.is_brought_under.ensures.1 (subst (λ (k : List ℕ). IsSome (pending_at j k)) (sym same) some) in
    let clash : false ≡ true = sym c.if-is_brought_under.false ∙ yes in cc in
    let earlier : ¬ (IsOfPeriodFrom C c.self.inside.period key) = λ of.
    let yes : c.is_of_period_from.result ≡ true = c.is_of_period_from.ensures.1 (subst (IsOfPeriodFrom C c.self.inside.period) (sym same) of) in
    let clash : false ≡ true = sym c.if-is_of_period_from.false ∙ yes in cc in
    subst (λ (b : PlainBook). StandsInHead b.config b.period b.base b.entries (what.Pending peer c.args.amount key)) c.self.view_is
    (waits book c.self.invariant.lawful peer c.args.amount key known begun head few c.as_slice-key.ensures.length visible single earlier)
