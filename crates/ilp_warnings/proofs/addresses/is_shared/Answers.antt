use Rattle.ilp_warnings.proofs.SharedAddresses.{shared_by}
use Rattle.ilp_warnings.proofs.addresses.is_shared.Goals as goal

pub returns-in-Ok-Ok : goal.returns-in-Ok-Ok
returns-in-Ok-Ok c = shared_by c.args.text.now c.args.other.now c.in-Ok-Ok.address c.in-Ok-Ok.other c.in-Ok-Ok.ensures.value c.in-Ok-Ok.ensures'.value c.conflicts.result c.conflicts.ensures
