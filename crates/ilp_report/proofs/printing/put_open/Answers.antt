use Rattle.std.proofs.Common.{◌∙◌, sym, subst, FitsSigned, rules}
use Rattle.std.specs.Int.{w128}
use Rattle.std.proofs.lemmas.Int.{to_z-of_z}
use Rattle.ilp_report.specs.Columns.{IsNarrow}
use Rattle.ilp_report.proofs.AmountLemmas.{count_is_narrow}
use Rattle.ilp_report.proofs.printing.put_open.Goals as goal

pub put_line-requires-clause-number : goal.put_line-requires-clause-number
put_line-requires-clause-number g c =
    let fits : FitsSigned w128 c.from.result = search rules in
    subst IsNarrow (sym (to_z-of_z w128 c.from.result fits ∙ c.from.ensures)) (count_is_narrow c.open_holds.result c.open_holds.type_inv)
