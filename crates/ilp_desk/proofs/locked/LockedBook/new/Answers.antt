use Rattle.std.proofs.Common.{sym, ◌∙◌}
use Rattle.ilp_grown_list.proofs.Begins.{prefix_nil}
use Rattle.ilp_desk.proofs.Sessions.{opened, none_booked}
use Rattle.ilp_desk.proofs.locked.LockedBook.new.Goals as goal

-- nothing was told yet
pub grow-requires : goal.grow-requires
grow-requires g c = rw c.named-entries.ensures (prefix_nil c.args.book.entries)

-- nothing is counted of the opening journal
pub invariant_of-result : goal.invariant_of-result
invariant_of-result g c = (
  record {
    of_desk = opened g.J.Naming.desk c.args.book c.requires.config c.requires.period c.requires.opening c.requires.base c.entry.ensures.lawful;
    counted = c.requires.total ∙ sym (none_booked g.J.Naming.desk c.args.book.entries c.requires.opening);
    cut = c.requires.cut;
    told = c.requires.workers.0;
    few = c.requires.workers.1;
  },
  c.grow.ensures,
)
