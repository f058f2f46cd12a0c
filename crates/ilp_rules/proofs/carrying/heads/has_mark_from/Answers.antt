use Rattle.std.proofs.Common.{◌≤◌, ◌<◌, ◌^◌, ℕ, Bool, sym, subst}
use Rattle.std.specs.Prelude.{IsTrue, ◌↔◌}
use Rattle.std.proofs.lemmas.Bool.{lt-leb}
use Rattle.ilp_rules.specs.Heads.{StartsWith, period_mark}
use Rattle.ilp_rules.proofs.KeyFronts.{of_marked, of_none}
use Rattle.ilp_rules.proofs.carrying.heads.has_mark_from.Goals as goal

pub returns-then-period-marked : goal.returns-then-period-marked
returns-then-period-marked c =
    of_marked c.args.rest.now c.marked_period-marked.result c.marked_period-marked.type_inv c.marked_period-marked.ensures c.args.period c.has_mark.result c.has_mark.ensures c.if-period-marked.true

pub returns-else-period-marked : goal.returns-else-period-marked
returns-else-period-marked c =
    let Tells : Bool → Type 0 = λ b. IsTrue b ↔ ((later : ℕ) × (c.args.period ≤ later) × (later < 2 ^ 32) × StartsWith c.args.rest.now (period_mark later)) in
    subst Tells (sym (lt-leb c.args.period c.marked_period-marked.result c.if-period-marked.false))
    (of_none c.args.rest.now c.marked_period-marked.result c.marked_period-marked.type_inv c.marked_period-marked.ensures c.args.period c.if-period-marked.false)
