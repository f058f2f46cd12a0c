use Rattle.std.proofs.Common.{ℕ, List, ◌++◌, append_assoc, ap, sym, ◌∙◌}
use Rattle.std.specs.Fmt.{decimal}
use Rattle.ilp_rules.specs.Heads.{period_mark}
use Rattle.ilp_statement_text.proofs.Fronts.{told_as, told_behind}
use Rattle.ilp_statement_text.proofs.key.is_own.Goals as goal

pub returns-in-Some : goal.returns-in-Some
returns-in-Some c =
    let run : List ℕ = c.args.run.now in
    let mark : List ℕ = period_mark c.args.period in
    let number : List ℕ = decimal c.args.number in
    told_as c.is_behind_run.result c.args.octets.now (run ++ (mark ++ number)) ((run ++ mark) ++ number)
    (sym (append_assoc run mark number))
    (told_behind c.is_behind_run.result c.args.octets.now run c.in-Some.rest.now (mark ++ number)
    (c.in-Some.ensures ∙ ap (λ (front : List ℕ). front ++ c.in-Some.rest.now) c.as_bytes.ensures.value) c.is_behind_run.ensures)
