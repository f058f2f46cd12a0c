use Rattle.std.proofs.Common.{refl, ap, ◌∙◌, Err}
use Rattle.ilp_accounts.proofs.Lookups.{among, fresh}
use Rattle.ilp_accounts.proofs.peers.add_text.Goals as goal

pub returns-in-Ok-clause-ok : goal.returns-in-Ok-clause-ok
returns-in-Ok-clause-ok c = (
  fresh c.args.texts.now c.args.text.now _ c.as_bytes.ensures.value c.insert.result c.insert.ensures.double c.in-Ok.field-0 c.in-Ok.is,
  rw (← c.as_bytes.ensures.value) c.in-Ok.ensures.ok,
)

pub returns-in-Err-Double-clause-err : goal.returns-in-Err-Double-clause-err
returns-in-Err-Double-clause-err c = λ other. (
  among c.args.texts.now c.args.text.now _ c.as_bytes.ensures.value c.insert.result c.insert.ensures.double (c.in-Err-Double.is ∙ ap Err c.in-Err-Double.field-0-is),
  refl,
)
