use Rattle.std.proofs.Common.{length, ◌+◌, arith}
use Rattle.std.proofs.lemmas.Slice.{between_to_end}
use Rattle.ilp_offline.proofs.FirstLine.{fields-ended, fields-whole}
use Rattle.ilp_offline.proofs.form.cut.Goals as goal

pub returns-in-Some : goal.returns-in-Some
returns-in-Some c =
    rw (between_to_end c.args.text.now (c.in-Some.end + 1) (length c.args.text.now) (omega arith))
    (fields-ended c.args.text.now c.in-Some.end c.in-Some.ensures.found)

pub returns-in-None : goal.returns-in-None
returns-in-None c = fields-whole c.args.text.now c.in-None.ensures.none
