use Rattle.std.proofs.Common.{◌≡◌, ◌≢◌, ◌<◌, ◌⊎◌, pos, length, sym, ap, ◌∙◌, subst, rules, arith, inl, inr, to_z, of_z}
use Rattle.std.specs.Prelude.{FitsSigned}
use Rattle.std.specs.Int.{w64, w128}
use Rattle.std.proofs.lemmas.Int.{to_z-of_z}
use Rattle.ilp_journal.specs.declared.entry.What.TheVariants as what
use Rattle.ilp_journal.specs.Balance.{balance}
use Rattle.ilp_rules.specs.Book.{PlainBook}
use Rattle.ilp_rules.specs.Broken.{OpensWrong}
use Rattle.ilp_rules.specs.Configured.{IsKnown, peer_assets}
use Rattle.ilp_rules.specs.Heads.{IsHead, StandsInHead}
use Rattle.ilp_rules.specs.Judging.{behind_all}
use Rattle.ilp_rules.specs.Parts.{book_of}
use Rattle.ilp_rules.proofs.JudgingHeads.{opens, opens_not, opens_wrong}
use Rattle.ilp_rules.proofs.carrying.Carrying.judge_opened.Goals as goal
use Rattle.ilp_rules.proofs.carrying.Carrying.judge_opened.Goals.{then-balance-eq0-via-then-balance-eq0, then-balance-eq0-via-else-balance-eq0+then-balance-ne0}

pub returns-then-balance-eq0-clause-err : goal.returns-then-balance-eq0-clause-err
returns-then-balance-eq0-clause-err g c =
    let j = c.self.inside.journal.entries in
    let book = book_of c.self.inside.config c.self.inside.period behind_all c.self.inside.journal in
    let nothing : (c.args.balance ≡ pos 0) ⊎ (balance j c.args.peer ≢ pos 0) = elim c.then-balance-eq0.branch [
      | then-balance-eq0-via-then-balance-eq0 w ↦ inl (sym (to_z-of_z w64 c.args.balance c.ranges.balance) ∙ ap (to_z w64) w.if-balance-eq0.true)
      | then-balance-eq0-via-else-balance-eq0+then-balance-ne0 w ↦
          inr (λ zero. w.if-balance-ne0.true (ap (of_z w128) (w.balance.ensures.value (peer_assets c.self.inside.config) behind_all j c.self.invariant.tallied ∙ zero)))
    ] in
    subst (λ (b : PlainBook). StandsInHead b.config b.period b.base b.entries (what.Opened c.args.peer c.args.balance) → ⊥) c.self.view_is
    (opens_not book c.self.invariant.lawful c.args.peer c.args.balance nothing)

pub returns-then-balance-eq0-clause-broken : goal.returns-then-balance-eq0-clause-broken
returns-then-balance-eq0-clause-broken g c =
    let j = c.self.inside.journal.entries in
    let book = book_of c.self.inside.config c.self.inside.period behind_all c.self.inside.journal in
    let head = subst (λ (b : PlainBook). (0 < b.period) × IsHead b.entries) (sym c.self.view_is) c.in_ok-judge_head.ensures.ok in
    let nothing : (c.args.balance ≡ pos 0) ⊎ (balance j c.args.peer ≢ pos 0) = elim c.then-balance-eq0.branch [
      | then-balance-eq0-via-then-balance-eq0 w ↦ inl (sym (to_z-of_z w64 c.args.balance c.ranges.balance) ∙ ap (to_z w64) w.if-balance-eq0.true)
      | then-balance-eq0-via-else-balance-eq0+then-balance-ne0 w ↦
          inr (λ zero. w.if-balance-ne0.true (ap (of_z w128) (w.balance.ensures.value (peer_assets c.self.inside.config) behind_all j c.self.invariant.tallied ∙ zero)))
    ] in
    λ _. subst (λ (b : PlainBook). OpensWrong b.entries (what.Opened c.args.peer c.args.balance)) c.self.view_is
    (opens_wrong book c.self.invariant.lawful c.args.peer c.args.balance head.1 nothing)

pub returns-clause-ok : goal.returns-clause-ok
returns-clause-ok g c =
    let C = c.self.inside.config in
    let j = c.self.inside.journal.entries in
    let book = book_of C c.self.inside.period behind_all c.self.inside.journal in
    let known : IsKnown C c.args.peer = omega (arith, c.if-peers-peer.false, c.peers.ensures.count) in
    let begun : length j < behind_all = subst (λ (b : PlainBook). length b.entries < b.base) (sym c.self.view_is) c.judge_head.ensures.begun in
    let head = subst (λ (b : PlainBook). (0 < b.period) × IsHead b.entries) (sym c.self.view_is) c.in_ok-judge_head.ensures.ok in
    let owed_fits : FitsSigned w128 c.balance.result = search rules in
    let zero : balance j c.args.peer ≡ pos 0 =
    sym (c.balance.ensures.value (peer_assets C) behind_all j c.self.invariant.tallied) ∙ (sym (to_z-of_z w128 c.balance.result owed_fits) ∙ ap (to_z w128) c.if-balance-ne0.false) in
    subst (λ (b : PlainBook). StandsInHead b.config b.period b.base b.entries (what.Opened c.args.peer c.args.balance)) c.self.view_is
    (opens book c.self.invariant.lawful c.args.peer c.args.balance known begun head (λ is. c.if-balance-eq0.false (ap (of_z w64) is)) zero)
