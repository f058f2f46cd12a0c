use Rattle.std.proofs.Common.{◌∙◌}
use Rattle.std.proofs.lemmas.Result.{IfOk-weaker}
use Rattle.ilp_starting.proofs.Whole.{end_spelt}
use Rattle.ilp_starting.proofs.whole_period.end_line.Goals as goal

pub returns : goal.returns
returns c = IfOk-weaker c.end_text.result _ _ (λ line is. is ∙ end_spelt c.args.count) c.end_text.ensures
