use Rattle.std.proofs.Common.{◌<◌, sym, ◌∙◌, ap, arith}
use Rattle.atomic_table.specs.Seated.{TableId}
use Rattle.ilp_grown_list.proofs.Moves.{takes_in_as, checks_as}
use Rattle.ilp_grown_list.proofs.list.GrownList.check.Goals as goal

pub join_seat-requires : goal.join_seat-requires
join_seat-requires g c =
    let i = c.self.invariant in
    let s = c.seen.invariant in
    let some_word : 0 < c.self.inside.table.shared.table_id.words = omega (arith, ap (λ (t : TableId). t.words) i.0, i.1) in
    (i.2 ∙ sym i.0, s.0 ∙ sym i.0, ap (λ m. m.1) s.1, some_word, takes_in_as _ _ c.self.inside.seat.me.0.all _ _ (ap (λ m. m.0) i.3))

pub load-requires : goal.load-requires
load-requires g c =
    let i = c.self.invariant in
    let j = c.join_seat.ensures in
    let some_word : 0 < c.self.inside.table.shared.table_id.words = omega (arith, ap (λ (t : TableId). t.words) i.0, i.1) in
    (j.0 ∙ i.2 ∙ sym i.0, some_word, checks_as _ _ c.join_seat.new.seat.me (ap (λ m. m.0.keeps) j.2 ∙ ap (λ m. m.0.keeps) i.3))
