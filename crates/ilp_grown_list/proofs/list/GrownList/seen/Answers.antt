use Rattle.std.proofs.Common.{◌<◌, sym, ◌∙◌, ap, arith}
use Rattle.atomic_table.specs.Seated.{TableId}
use Rattle.ilp_grown_list.proofs.Moves.{gives_as}
use Rattle.ilp_grown_list.proofs.list.GrownList.seen.Goals as goal

pub split_seat-seat-requires : goal.split_seat-seat-requires
split_seat-seat-requires g c =
    let i = c.self.invariant in
    let some_word : 0 < c.self.inside.table.shared.table_id.words = omega (arith, ap (λ (t : TableId). t.words) i.0, i.1) in
    (i.2 ∙ sym i.0, some_word, gives_as _ _ c.self.inside.seat.me.0.all (ap (λ m. m.0) i.3))
