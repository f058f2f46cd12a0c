use Rattle.ilp_remembered.specs.Remembered.{IsChanged}
use Rattle.ilp_remembered.proofs.Found.{none_up_to}
use Rattle.ilp_remembered.proofs.change.first_changed.Goals as goal

-- The peer that was looked at has no other asset in which something is counted.
pub loop-peer-preserved : goal.loop-peer-preserved
loop-peer-preserved c = none_up_to (IsChanged c.args.book.now.config c.args.book.now.entries c.args.text.now) c.loop-peer.peer c.in_ok-is_changed.field-0 c.loop-peer.invariant c.in_ok-is_changed.ensures c.if-branch.false
