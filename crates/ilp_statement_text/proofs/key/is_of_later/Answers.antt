use Rattle.std.proofs.Common.{ℕ, List, ◌++◌, codes, append_assoc, ap, sym}
use Rattle.std.specs.Fmt.{decimal}
use Rattle.ilp_statement_text.proofs.Fronts.{told_as, told_behind}
use Rattle.ilp_statement_text.proofs.key.is_of_later.Goals as goal

pub returns-in-Some : goal.returns-in-Some
returns-in-Some c =
    let behind : List ℕ = decimal c.args.period ++ (codes "-" ++ decimal c.args.number) in
    let whole : List ℕ = (codes "." ++ (decimal c.args.period ++ codes "-")) ++ decimal c.args.number in
    told_as c.is_of_period.result c.args.octets.now (codes "." ++ behind) whole
    (sym (ap (λ (l : List ℕ). codes "." ++ l) (append_assoc (decimal c.args.period) (codes "-") (decimal c.args.number))))
    (told_behind c.is_of_period.result c.args.octets.now (codes ".") c.in-Some.rest.now behind c.in-Some.ensures c.is_of_period.ensures)
