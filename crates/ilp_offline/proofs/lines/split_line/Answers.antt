use Rattle.std.proofs.Common.{length, ◌+◌, arith}
use Rattle.std.proofs.lemmas.Slice.{between_to_end}
use Rattle.ilp_offline.proofs.FirstLine.{lines_of-ended, lines_of-whole}
use Rattle.ilp_offline.proofs.lines.split_line.Goals as goal

pub returns-in-Some-clause-lines : goal.returns-in-Some-clause-lines
returns-in-Some-clause-lines c =
    rw (between_to_end c.args.text.now (c.in-Some.end + 1) (length c.args.text.now) (omega arith))
    (lines_of-ended c.args.text.now c.in-Some.end c.in-Some.ensures.found)

pub returns-in-None-clause-lines : goal.returns-in-None-clause-lines
returns-in-None-clause-lines c = lines_of-whole c.args.text.now c.requires c.in-None.ensures.none
