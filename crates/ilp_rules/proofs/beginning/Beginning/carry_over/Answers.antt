use Rattle.std.proofs.Common.{[], subst}
use Rattle.std.specs.Int.{w64}
use Rattle.std.proofs.lemmas.Int.{to_z-of_z}
use Rattle.ilp_rules.specs.Carry.{IsCarriedOver}
use Rattle.ilp_rules.specs.Recover.{IsWhyNotRecovered}
use Rattle.ilp_rules.proofs.Recovered.{as_carried, unlawful_as_carried, no_log_is_bad}
use Rattle.ilp_rules.proofs.beginning.Beginning.carry_over.Goals as goal

-- no lines have no bad one
pub unreachable-requires : goal.unreachable-requires
unreachable-requires g c =
    let C = c.args.config.now in
    let why = subst (IsWhyNotRecovered C c.args.text.now []) c.in-Err-BadLogLine.field-0-is c.in-Err-BadLogLine.ensures.err in
    no_log_is_bad C c.args.text.now c.in-Err-BadLogLine.field-0-0 why

pub returns-in-Ok-clause-ok : goal.returns-in-Ok-clause-ok
returns-in-Ok-clause-ok g c =
    let C = c.args.config.now in
    subst (λ t. IsCarriedOver C c.args.text.now t c.in-Ok.beginning) (to_z-of_z w64 c.args.now c.ranges.now) (as_carried C c.args.text.now _ c.in-Ok.beginning c.in-Ok.ensures.ok)

pub returns-in-Err-Unlawful-clause-err : goal.returns-in-Err-Unlawful-clause-err
returns-in-Err-Unlawful-clause-err g c =
    let C = c.args.config.now in
    let why = subst (IsWhyNotRecovered C c.args.text.now []) c.in-Err-Unlawful.field-0-is c.in-Err-Unlawful.ensures.err in
    unlawful_as_carried C c.args.text.now c.in-Err-Unlawful.entry c.in-Err-Unlawful.rule why
