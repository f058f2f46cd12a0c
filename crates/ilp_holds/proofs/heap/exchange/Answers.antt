use Rattle.std.proofs.Common.{refl}
use Rattle.ilp_holds.proofs.Exchanged.{exchanged, leads_there, same_holds}
use Rattle.ilp_holds.proofs.heap.exchange.Goals as goal

pub returns-clause-leads : goal.returns-clause-leads
returns-clause-leads c =
    leads_there c.args.heap.now _ c.args.index.now _ _ c.args.row c.args.at c.args.other c.requires.leads c.requires.within c.requires.indexed c.swap.ensures.after c.note.ensures refl

pub returns-clause-indexed : goal.returns-clause-indexed
returns-clause-indexed c =
    exchanged c.args.heap.now _ c.args.index.now _ _ c.args.row c.args.at c.args.other c.requires.leads c.requires.within c.requires.indexed c.swap.ensures.after c.note.ensures refl

pub returns-clause-same : goal.returns-clause-same
returns-clause-same c =
    same_holds c.args.heap.now _ c.args.index.now _ _ c.args.row c.args.at c.args.other c.requires.leads c.requires.within c.requires.indexed c.swap.ensures.after c.note.ensures refl
