use Rattle.std.proofs.Common.{sym, ap, ◌∙◌, rules}
use Rattle.std.specs.Prelude.{FitsSigned}
use Rattle.std.specs.Int.{w64, w128}
use Rattle.std.proofs.lemmas.Int.{to_z-of_z}
use Rattle.ilp_accounts.specs.Configuration.{peer_at}
use Rattle.ilp_journal.specs.Balance.{balance}
use Rattle.ilp_rules.specs.Book.{PlainBook}
use Rattle.ilp_rules.specs.Configured.{peer_assets}
use Rattle.ilp_rules.specs.Judging.{behind_all}
use Rattle.ilp_rules.proofs.Judging.{is_covered, not_covered}
use Rattle.ilp_rules.proofs.carrying.Carrying.judge_balance.Goals as goal

pub returns-then-is_short-clause-err : goal.returns-then-is_short-clause-err
returns-then-is_short-clause-err g c =
    let from = c.args.peer in
    let owed_fits : FitsSigned w128 c.balance-balance.result = search rules in
    let least_fits : FitsSigned w64 c.least.result = search rules in
    let owed = to_z-of_z w128 c.balance-balance.result owed_fits
    ∙ (c.balance-balance.ensures.value (peer_assets c.self.inside.config) behind_all c.self.inside.journal.entries c.self.invariant.tallied
    ∙ ap (λ (b : PlainBook). balance b.entries from) c.self.view_is) in
    let least = to_z-of_z w64 c.least.result least_fits ∙ (c.least.ensures ∙ ap (λ (b : PlainBook). (peer_at b.config from).least) c.self.view_is) in
    not_covered _ _ _ _ c.args.amount owed least (sym c.is_short.ensures ∙ c.if-is_short.true)

pub returns-clause-ok : goal.returns-clause-ok
returns-clause-ok g c =
    let from = c.args.peer in
    let owed_fits : FitsSigned w128 c.balance-balance.result = search rules in
    let least_fits : FitsSigned w64 c.least.result = search rules in
    let owed = to_z-of_z w128 c.balance-balance.result owed_fits
    ∙ (c.balance-balance.ensures.value (peer_assets c.self.inside.config) behind_all c.self.inside.journal.entries c.self.invariant.tallied
    ∙ ap (λ (b : PlainBook). balance b.entries from) c.self.view_is) in
    let least = to_z-of_z w64 c.least.result least_fits ∙ (c.least.ensures ∙ ap (λ (b : PlainBook). (peer_at b.config from).least) c.self.view_is) in
    is_covered _ _ _ _ c.args.amount owed least (sym c.is_short.ensures ∙ c.if-is_short.false)
