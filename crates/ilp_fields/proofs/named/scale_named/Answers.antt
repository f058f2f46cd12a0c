use Rattle.std.proofs.Common.{◌≡◌, true, rules}
use Rattle.ilp_fields.specs.Named.{is_plain_number}
use Rattle.ilp_fields.proofs.Numbers.{no_scale}
use Rattle.ilp_fields.proofs.named.scale_named.Goals as goal

pub returns-in-Err : goal.returns-in-Err
returns-in-Err c =
    let plain : is_plain_number c.args.digits.now ≡ true = search rules in
    no_scale c.args.digits.now plain c.in-Err.ensures.value.0
