use Rattle.std.proofs.Common.{◌∙◌, sym, arith, rules}
use Rattle.std.proofs.lemmas.Grind.{common_steps}
use Rattle.test_tearing.proofs.Changes.{put_behind, put_made}
use Rattle.test_tearing.proofs.change.written.Goals as goal

pub returns-then-at-old : goal.returns-then-at-old
returns-then-at-old c = search (rules, put_behind)

pub returns : goal.returns
returns c = grind (arith, common_steps, put_made c.args.at c.args.octets.now c.args.old.now (omega arith))
