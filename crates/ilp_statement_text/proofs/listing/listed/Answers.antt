use Rattle.std.proofs.Common.{rules, filter, ap, ◌∙◌}
use Rattle.std.proofs.lemmas.Fn.{filter_same}
use Rattle.ilp_statement.specs.declared.line.Line.{Line}
use Rattle.ilp_statement_text.specs.Sought.{is_listed}
use Rattle.ilp_statement_text.proofs.listing.listed.Goals as goal

pub returns-clause-lines : goal.returns-clause-lines
returns-clause-lines c =
    filter_same _ _ _ (λ x b f' k. search rules) _ _ c.retain.ensures.filtered
    ∙ ap (filter (λ (line : Line). is_listed c.args.book.now c.args.peer c.args.sought line.number)) c.in_ok-statement.ensures.lines
