use Rattle.std.proofs.Common.{◌≡◌, ◌<◌, length, refl, arith}
use Rattle.ilp_rules.proofs.PendingKeys.{sought_on, sought_found, sought_none}
use Rattle.ilp_rules.proofs.carrying.heads.is_brought_under.Goals as goal

pub loop-number-init : goal.loop-number-init
loop-number-init g c = refl

pub returns-then-has_earlier_key : goal.returns-then-has_earlier_key
returns-then-has_earlier_key g c =
    let j = c.args.journal.now.entries in
    let below : c.loop-number.number < length j = omega (arith, c.loop-number-test.true, c.len-number-end.ensures.count) in
    sought_found j c.args.key.now c.loop-number.number c.has_earlier_key.result below c.has_earlier_key.ensures c.if-has_earlier_key.true c.loop-number.invariant

pub loop-number-preserved : goal.loop-number-preserved
loop-number-preserved g c =
    let j = c.args.journal.now.entries in
    let below : c.loop-number.number < length j = omega (arith, c.loop-number-test.true, c.len-number-end.ensures.count) in
    sought_on j c.args.key.now c.loop-number.number c.has_earlier_key.result below c.has_earlier_key.ensures c.if-has_earlier_key.false c.loop-number.invariant

pub returns : goal.returns
returns g c =
    let j = c.args.journal.now.entries in
    let all : c.loop-number.number ≡ length j = omega (arith, c.loop-number-test.false, c.loop-number.auto.number-end, c.len-number-end.ensures.count) in
    sought_none j c.args.key.now c.loop-number.number all c.loop-number.invariant
