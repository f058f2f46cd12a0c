use Rattle.std.proofs.Common.{◌≡◌, ◌∷◌}
use Rattle.std.specs.List.{slice_split}
use Rattle.ilp_offline.specs.Script.{is_space}
use Rattle.ilp_offline.proofs.FirstLine.{fields_of-rest}
use Rattle.ilp_offline.proofs.form.split_fields.Goals as goal

pub returns-in-Some-rest-3 : goal.returns-in-Some-rest-3
returns-in-Some-rest-3 c =
    let parted : slice_split is_space c.args.line.now
    ≡ c.cut.result.0.now ∷ c.cut-2.result.0.now ∷ c.cut-3.result.0.now ∷ c.cut-4.result.0.now ∷ slice_split is_space c.in-Some-rest-3.rest.now = cc in
    fields_of-rest c.args.line.now _ _ _ _ c.in-Some-rest-3.rest.now parted
