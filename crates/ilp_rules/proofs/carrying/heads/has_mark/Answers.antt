use Rattle.std.proofs.Common.{◌≡◌, ◌++◌, false, cond, Some, None, sym, ap, subst}
use Rattle.std.specs.Prelude.{codes, IsTrue, ◌↔◌}
use Rattle.std.specs.Fmt.{decimal}
use Rattle.std.proofs.lemmas.Bool.{ne_eqb}
use Rattle.std.proofs.lemmas.Bool.Decides.{Decides-eqb}
use Rattle.std.proofs.lemmas.Slice.Eq.{strip_prefix_is, starts_is}
use Rattle.ilp_rules.specs.Heads.{StartsWith, period_mark}
use Rattle.ilp_rules.proofs.KeyFronts.{begins_on, begins_not, begins_or_not, untrue}
use Rattle.ilp_rules.proofs.carrying.heads.has_mark.Goals as goal

-- in the first period a hyphen
pub returns-then-period-eq0 : goal.returns-then-period-eq0
returns-then-period-eq0 c =
    let rest = c.args.rest.now in
    subst (λ n. IsTrue c.starts_with.result ↔ StartsWith rest (period_mark n)) (sym c.if-period-eq0.true)
    (begins_or_not rest (codes "-") c.starts_with.result (starts_is Decides-eqb rest (codes "-") c.starts_with.result c.starts_with.ensures.value))

-- in a later one a full stop and more
pub returns-in-Some : goal.returns-in-Some
returns-in-Some c =
    let rest = c.args.rest.now in
    let more = decimal c.args.period ++ codes "-" in
    let mark : period_mark c.args.period ≡ codes "." ++ more = ap (λ b. cond b (codes "-") (codes "." ++ more)) (ne_eqb c.args.period 0 c.if-period-eq0.false) in
    let found = strip_prefix_is Decides-eqb rest (codes ".") (Some c.in-Some.rest) c.in-Some.ensures.cases in
    subst (λ m. IsTrue c.has_number.result ↔ StartsWith rest m) (sym mark) (begins_on (codes ".") rest c.in-Some.rest.now found more c.has_number.result c.has_number.ensures)

pub returns-in-None : goal.returns-in-None
returns-in-None c =
    let rest = c.args.rest.now in
    let more = decimal c.args.period ++ codes "-" in
    let mark : period_mark c.args.period ≡ codes "." ++ more = ap (λ b. cond b (codes "-") (codes "." ++ more)) (ne_eqb c.args.period 0 c.if-period-eq0.false) in
    let none = strip_prefix_is Decides-eqb rest (codes ".") None c.in-None.ensures.cases in
    subst (λ m. IsTrue false ↔ StartsWith rest m) (sym mark) (untrue (begins_not (codes ".") more rest none))
