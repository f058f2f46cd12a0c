use Rattle.std.proofs.Common.{◌<◌, ◌==◌, sym, ◌∙◌, ap, arith}
use prog.Atomic.{either}
use mathlib.Core.List.{IsPrefix}
use Rattle.atomic_table.specs.Seated.{TableId}
use Rattle.ilp_grown_list.proofs.Moves.{grows_as}
use Rattle.ilp_grown_list.proofs.list.GrownList.grow.Goals as goal

pub compare_exchange_with-requires : goal.compare_exchange_with-requires
compare_exchange_with-requires g c =
    let i = c.self.invariant in
    let some_word : 0 < c.self.inside.table.shared.table_id.words = omega (arith, ap (λ (t : TableId). t.words) i.0, i.1) in
    let all = c.self.inside.seat.me.0.all in
    let longer : IsPrefix all (g.T.Tells.told all c.args.said.now) = rw c.self.view_is c.requires in
    (i.2 ∙ sym i.0, some_word, grows_as g.T.Tells.told c.args.said.now _ _ _ all (λ n. either (n == 0) 0 n) i.3 longer)
