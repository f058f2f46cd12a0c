use Rattle.std.proofs.Common.{arith}
use Rattle.std.proofs.lemmas.Str.Pattern.{strip_prefix_char}
use Rattle.ilp_settlement.proofs.CorrectionLemmas.{behind_minus-from}
use Rattle.ilp_settlement.proofs.json.behind_minus.Goals as goal

pub returns : goal.returns
returns c = behind_minus-from c.args.text.now c.strip_prefix.result (strip_prefix_char 45 c.args.text.now c.strip_prefix.result c.strip_prefix.ensures.cases (omega arith))
