use Rattle.std.proofs.Common.{ℕ, ◌∙◌, ◌*◌, ◌^◌, ◌-◌, ap, sym, arith}
use Rattle.ilp_settlement.proofs.CreditLemmas.{to_finer, to_coarser, more_places, ok_from_some}
use Rattle.ilp_settlement.proofs.credit.credited.Goals as goal

pub returns-in_default : goal.returns-in_default
returns-in_default c =
    let quantity = c.args.quantity.now in
    λ fits. c.in_default.ensures (omega (arith, fits, to_finer quantity.amount quantity.scale c.args.scale (omega arith), more_places quantity.amount 0 (c.args.scale - quantity.scale) (omega arith)))

pub returns-in-Ok : goal.returns-in-Ok
returns-in-Ok c =
    let quantity = c.args.quantity.now in
    ok_from_some c.raised.result c.ok_or.result (record {}) _ _ c.ok_or.ensures.value
    (to_finer quantity.amount quantity.scale c.args.scale (omega arith) ∙ ap (λ (n : ℕ). n * 10 ^ (c.args.scale - quantity.scale)) (sym c.in-Ok.ensures.1))
    c.raised.ensures

pub returns-in_default-try_from : goal.returns-in_default-try_from
returns-in_default-try_from c =
    let quantity = c.args.quantity.now in
    λ fits. c.in_default-try_from.ensures (omega (arith, fits, c.lowered.ensures, to_coarser quantity.amount quantity.scale c.args.scale (omega arith)))

pub returns-in-Ok-try_from : goal.returns-in-Ok-try_from
returns-in-Ok-try_from c =
    let quantity = c.args.quantity.now in
    let value = c.in-Ok-try_from.ensures.1 ∙ c.lowered.ensures ∙ sym (to_coarser quantity.amount quantity.scale c.args.scale (omega arith)) in
    (omega (arith, value, c.in-Ok-try_from.ensures.0, c.in-Ok-try_from.ensures.1), value)
