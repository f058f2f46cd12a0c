use Rattle.ilp_flow.proofs.RowProofs.{flow_rows, closing_rows}
use Rattle.ilp_flow.proofs.laws.rows.Goals as goal

pub returns-clause-flow : goal.returns-clause-flow
returns-clause-flow c = flow_rows

pub returns-clause-closing : goal.returns-clause-closing
returns-clause-closing c = closing_rows
