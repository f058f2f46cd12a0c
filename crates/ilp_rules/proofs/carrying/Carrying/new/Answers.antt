use Rattle.std.proofs.Common.{◌^◌, ◌<◌, ◌∙◌, rules}
use Rattle.ilp_rules.proofs.CarriedParts.{carried_new}
use Rattle.ilp_rules.proofs.carrying.Carrying.new.Goals as goal

pub invariant_of-result : goal.invariant_of-result
invariant_of-result g c =
    let numbered : c.args.period < 2 ^ 32 = search rules in
    rw c.in_ok-copy.ensures (carried_new c.args.config.now c.args.period c.in_ok-journal.journal c.in_ok-tables.tables.tallies c.in_ok-tables.tables.holds c.in_ok-tables.tables.keys c.journal.ensures.valid numbered c.in_ok-journal.ensures.empty (c.in_ok-journal.ensures.limit ∙ c.journal.ensures.value) c.in_ok-tables.ensures)
